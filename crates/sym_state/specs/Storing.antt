-- What a store makes of memory. Where its address is a term, its page is known. The way that a load of
-- as many bytes takes to that address (`Loading`) leads the store: each byte of the page that the way
-- may come to is the stored one where it comes there, and else stays.
use Rattle.std.specs.Prelude.{ℕ, ◌+◌, ◌-◌, ◌*◌, ◌/◌, ◌%◌, ◌^◌, ◌==◌, ◌&&◌, Bool, List, [], ◌∷◌, nat_le, nat_lt, if◌then◌else◌}
use Rattle.bv_dag.specs.declared.nodes.Comparison.TheVariants.{Eq}
use Rattle.fork_spec.specs.Decisions.{as_load}
use Rattle.rv_decode.specs.declared.ops.LoadWidth.{LoadWidth}
use Rattle.rv_decode.specs.declared.ops.StoreWidth.{StoreWidth}
use Rattle.rv_decode.specs.declared.ops.StoreWidth.TheVariants.{Sb, Sh, Sw}
use Rattle.term_simplify.specs.Plain.{part_of}
use Rattle.term_simplify.specs.Simplified.{comparison_of}
use Rattle.term_trees.specs.Trees.{Tree, Constant}
use Rattle.sym_state.specs.Expressions.{Expression, Number, Unknown, byte_choice, register_byte, settled}
use Rattle.sym_state.specs.Indexing.{index_of}
use Rattle.sym_state.specs.Loading.{Way, bytes, way_by}
use Rattle.sym_state.specs.declared.ways.Stride.{Stride}

-- the bytes that are stored, low byte first
abbrev pub stored : StoreWidth → Expression → List Expression
stored Sb e = register_byte 0 e ∷ []
stored Sh e = register_byte 0 e ∷ register_byte 1 e ∷ []
stored Sw e = register_byte 0 e ∷ register_byte 1 e ∷ register_byte 2 e ∷ register_byte 3 e ∷ []

-- memory with these bytes from an address on
abbrev pub with_expressions : (ℕ → Expression) → ℕ → List Expression → ℕ → Expression
with_expressions byte address [] = byte
with_expressions byte address (e ∷ es) =
    with_expressions (λ at. if at == address then e else byte at) (address + 1) es

-- ---- Where a way comes to.
-- the bits by which it leads on
abbrev pub way_bits : Way → Tree
way_bits way = part_of (way.first + way.count - 1) way.first way.term

-- the stride in which it leads on
abbrev pub stride_of : Way → Stride
stride_of way = record { start = way.start; count = way.count; scale = way.scale }

-- which number the bits are where they lead to an address
abbrev pub steps_to : Stride → (address : ℕ) → ℕ
steps_to stride address = (address - stride.start) / 2 ^ stride.scale

-- so many bits can lead there
abbrev pub may_come : Stride → (address : ℕ) → Bool
may_come stride address =
    nat_le stride.start address
    && (((address - stride.start) % 2 ^ stride.scale == 0)
    && nat_lt (steps_to stride address) (2 ^ stride.count))

-- 1 where it comes to an address
abbrev pub comes_to : Way → (address : ℕ) → Expression
comes_to way address =
    if may_come (stride_of way) address
    then settled (comparison_of Eq (way_bits way)
    (Constant way.count (steps_to (stride_of way) address)))
    else Number 0

-- ---- A store by a term.
-- the byte that is stored where a bit is 1, and else the one that was there
abbrev pub byte_where : (bit stored kept : Expression) → Expression
byte_where (Number bit) stored kept = if bit == 1 then stored else kept
byte_where (Unknown c) stored kept = byte_choice c stored kept

-- what stands at an address of the page, where the bytes that are stored are these by their places
abbrev pub byte_after : (byte : ℕ → Expression) → LoadWidth → Way → (stored : ℕ → Expression) → (address : ℕ)
    → Expression
byte_after byte width way stored address =
    byte_where (comes_to way (address / bytes width * bytes width)) (stored (address % bytes width))
    (byte address)

-- memory with its bytes from an address on replaced, so many
abbrev pub replaced : {A : Type 0} → (start count : ℕ) → (after before : ℕ → A) → (address : ℕ) → A
replaced start count after before address =
    if nat_le start address && nat_lt address (start + count) then after address else before address

abbrev pub stored_along : (byte : ℕ → Expression) → LoadWidth → (page : ℕ) → Way → (stored : ℕ → Expression) → ℕ → Expression
stored_along byte width page way stored =
    replaced (256 * page) 256 (byte_after byte width way stored) byte

-- memory after a store to an address on a page
abbrev pub stored_on : StoreWidth → (byte : ℕ → Expression) → (page : ℕ) → (address value : Expression) → ℕ → Expression
stored_on width byte page (Number address) e = with_expressions byte address (stored width e)
stored_on width byte page (Unknown t) e =
    stored_along byte (as_load width) page (way_by (index_of t) (as_load width) page t)
    (λ at. register_byte at e)
