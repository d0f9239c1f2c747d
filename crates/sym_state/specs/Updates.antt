-- The last stores by terms, in lists of updates. Beside the bytes of a page a run keeps what was stored of
-- late to the places of a stride, and by which bits: what is loaded from there is what was stored last by
-- bits that are the load's, and else what stood there before.
use Rattle.std.specs.Prelude.{ℕ, ◌+◌, ◌*◌, ◌/◌, ◌^◌, ◌==◌, ◌&&◌, Bool, true, false, not, List, [], ◌∷◌, ◌++◌, filter, find, length, nat_lt, if◌then◌else◌, Option, Some, None}
use Rattle.bv_dag.specs.declared.nodes.Comparison.TheVariants.{Eq}
use Rattle.fork_spec.specs.Decisions.{as_load}
use Rattle.rv_decode.specs.declared.ops.LoadWidth.{LoadWidth}
use Rattle.rv_decode.specs.declared.ops.LoadWidth.TheVariants.{Lb, Lh, Lw, Lbu, Lhu}
use Rattle.rv_decode.specs.declared.ops.StoreWidth.{StoreWidth}
use Rattle.term_simplify.specs.Simplified.{choice_of, comparison_of}
use Rattle.term_trees.specs.Trees.{Tree}
use Rattle.sym_state.specs.Expressions.{Expression, Number, Unknown, register_byte, settled, tree_in, widened_byte, widened_half}
use Rattle.sym_state.specs.Indexing.{index_of}
use Rattle.sym_state.specs.Loading.{Way, bytes, loaded, loaded_along, way_by}
use Rattle.sym_state.specs.Storing.{may_come, stored, stride_of, way_bits}
use Rattle.sym_state.specs.declared.updates.Site.{Site}
use Rattle.sym_state.specs.declared.ways.Stride.{Stride}

-- ---- Where updates go.
abbrev pub is_stride : (a b : Stride) → Bool
is_stride a b = (a.start == b.start) && ((a.count == b.count) && (a.scale == b.scale))

-- the same places of a page, of as many bytes each
abbrev pub is_site : (a b : Site) → Bool
is_site a b =
    (a.page == b.page) && ((bytes a.width == bytes b.width) && is_stride a.stride b.stride)

-- a byte of one of its places
abbrev pub is_at : Site → (address : ℕ) → Bool
is_at site address =
    (address / 256 == site.page)
    && may_come site.stride (address / bytes site.width * bytes site.width)

-- the places on a page that a way comes to
abbrev pub site_of : LoadWidth → (page : ℕ) → Way → Site
site_of width page way = record { page = page; width = width; stride = stride_of way }

-- ---- Lists of updates, over what memory is and what an update is.
pub record UpdateList (M S : Type 0) : Type 0 where
  pub site : Site
  -- memory before the first of them
  pub before : M
  -- the oldest first
  pub stored : List S

module _ {M S : Type 0} where
  -- the list at a site
  abbrev pub updates_at : Site → List (UpdateList M S) → Option (UpdateList M S)
  updates_at site updates = find (λ t. is_site t.site site) updates

  -- those for no byte at an address
  abbrev pub without : (address : ℕ) → List (UpdateList M S) → List (UpdateList M S)
  without address updates = filter (λ t. not (is_at t.site address)) updates

  -- those of other pages
  abbrev pub elsewhere : (page : ℕ) → List (UpdateList M S) → List (UpdateList M S)
  elsewhere page updates = filter (λ t. not (t.site.page == page)) updates

  -- The list that a store goes on with: the one there, while it has fewer stores than there are places,
  -- and else a new one.
  abbrev pub begun : Site → M → Option (UpdateList M S) → UpdateList M S
  begun site memory None = record { site = site; before = memory; stored = [] }
  begun site memory (Some t) =
      if nat_lt (length t.stored) (2 ^ t.site.stride.count) then t
      else record { site = site; before = memory; stored = [] }

  abbrev pub with_update : UpdateList M S → S → UpdateList M S
  with_update t one = record { site = t.site; before = t.before; stored = t.stored ++ one ∷ [] }

  -- The lists after a store by a term, in this memory. Others of its page are given up.
  abbrev pub updates_with : Site → M → S → List (UpdateList M S) → List (UpdateList M S)
  updates_with site memory one updates =
      elsewhere site.page updates
      ++ with_update (begun site memory (updates_at site updates)) one ∷ []

-- ---- A store by a term: the bits of the way there, and the value.
pub record Update : Type 0 where
  pub bits : Tree
  pub value : Expression

-- a list over expressions
abbrev pub ExpressedUpdates : Type 0
ExpressedUpdates = UpdateList (ℕ → Expression) Update

-- ---- A load.
-- what is loaded where a value was stored by as many bytes
abbrev pub as_loaded : LoadWidth → Expression → Expression
as_loaded Lb e = widened_byte true (register_byte 0 e)
as_loaded Lh e = widened_half true (register_byte 0 e) (register_byte 1 e)
as_loaded Lw e = e
as_loaded Lbu e = widened_byte false (register_byte 0 e)
as_loaded Lhu e = widened_half false (register_byte 0 e) (register_byte 1 e)

-- the first of two values where a bit is 1, and else the second
abbrev pub value_where : (bit first second : Expression) → Expression
value_where (Number bit) first second = if bit == 1 then first else second
value_where (Unknown c) first second = settled (choice_of c (tree_in 32 first) (tree_in 32 second))

-- what is loaded by these bits after one more store, where it was this before
abbrev pub loaded_after : LoadWidth → (bits : Tree) → Update → (before : Expression) → Expression
loaded_after width bits one before =
    value_where (settled (comparison_of Eq one.bits bits)) (as_loaded width one.value) before

-- and after several
abbrev pub loaded_after_all : LoadWidth → (bits : Tree) → List Update → (before : Expression) → Expression
loaded_after_all width bits [] before = before
loaded_after_all width bits (one ∷ others) before =
    loaded_after_all width bits others (loaded_after width bits one before)

-- what is loaded along a way: from the list there, if there is one, and else from memory
abbrev pub loaded_from : LoadWidth → (byte : ℕ → Expression) → (page : ℕ) → Way → Option ExpressedUpdates → Expression
loaded_from width byte page way None = loaded_along width byte page way
loaded_from width byte page way (Some t) =
    loaded_after_all width (way_bits way) t.stored (loaded_along width t.before page way)

abbrev pub loaded_by : LoadWidth → (byte : ℕ → Expression) → List ExpressedUpdates → (page : ℕ) → Way → Expression
loaded_by width byte updates page way =
    loaded_from width byte page way (updates_at (site_of width page way) updates)

-- what is loaded from an address on a page
abbrev pub loaded_on : LoadWidth → (byte : ℕ → Expression) → List ExpressedUpdates → (page : ℕ) → (address : Expression) → Expression
loaded_on width byte updates page (Number address) = loaded width byte address
loaded_on width byte updates page (Unknown t) =
    loaded_by width byte updates page (way_by (index_of t) width page t)

-- ---- A store.
-- the lists after bytes were put from an address on
abbrev pub without_bytes : (address : ℕ) → List Expression → List ExpressedUpdates → List ExpressedUpdates
without_bytes address [] updates = updates
without_bytes address (e ∷ es) updates = without_bytes (address + 1) es (without address updates)

-- the lists after a store along a way
abbrev pub updates_along : (byte : ℕ → Expression) → LoadWidth → (page : ℕ) → Way → (value : Expression) → List ExpressedUpdates → List ExpressedUpdates
updates_along byte width page way value updates =
    updates_with (site_of width page way) byte (record { bits = way_bits way; value = value }) updates

-- the lists after a store to an address on a page
abbrev pub updates_after : StoreWidth → (byte : ℕ → Expression) → List ExpressedUpdates → (page : ℕ) → (address value : Expression) → List ExpressedUpdates
updates_after width byte updates page (Number address) value =
    without_bytes address (stored width value) updates
updates_after width byte updates page (Unknown t) value =
    updates_along byte (as_load width) page (way_by (index_of t) (as_load width) page t) value updates
