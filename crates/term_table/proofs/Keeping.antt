-- The nodes and widths that the entries keep.
use Rattle.std.proofs.Common.{◌≡◌, ℕ, ◌<◌, ◌≤◌, List, [], ◌∷◌, ◌++◌, get_or, length, take, sym, ap, ◌∙◌, arith, Some, None, inl, inr}
use Rattle.std.proofs.lemmas.Bool.{cases_lt}
use Rattle.std.specs.List.{slice_get}
use Rattle.std.specs.Option.{option_map, unwrap_or}
use Rattle.std.proofs.lemmas.List.{get_or_past, length-map, map-append, take-map}
use Rattle.std.proofs.lemmas.Option.{get_or_from_slice_get, slice_get-map, unwrap_or-slice_get}
use Rattle.bv_dag.specs.Graphs.{AllFit}
use Rattle.bv_dag.specs.Nodes.{widths_of, width_in}
use Rattle.bv_dag.proofs.Fitting.{length-widths_of, width_in_bounds}
use Rattle.term_table.specs.Entries.{nodes_of, kept_widths}
use Rattle.term_table.specs.declared.entry.TableEntry.{TableEntry}

pub length-nodes_of : (entries : List TableEntry) → length (nodes_of entries) ≡ length entries
length-nodes_of entries = length-map entries (λ (e : TableEntry). e.node)

-- the node of an entry that is read
pub slice_get-nodes_of : (entries : List TableEntry) (id : ℕ) (e : TableEntry) →
    slice_get entries id ≡ Some e → slice_get (nodes_of entries) id ≡ Some e.node
slice_get-nodes_of entries id e read =
    slice_get-map (λ (e : TableEntry). e.node) entries id ∙ ap (option_map (λ (e : TableEntry). e.node)) read

-- the width of an entry that is read
pub get_or-kept_widths : (entries : List TableEntry) (id : ℕ) (e : TableEntry) →
    slice_get entries id ≡ Some e → get_or (kept_widths entries) id 0 ≡ e.width
get_or-kept_widths entries id e read =
    get_or_from_slice_get (kept_widths entries) id e.width 0
    (slice_get-map (λ (e : TableEntry). e.width) entries id ∙ ap (option_map (λ (e : TableEntry). e.width)) read)

-- and where none is there
pub get_or-kept_widths_past : (entries : List TableEntry) (id : ℕ) → slice_get entries id ≡ None →
    get_or (kept_widths entries) id 0 ≡ 0
get_or-kept_widths_past entries id none =
    sym (unwrap_or-slice_get (kept_widths entries) id 0)
    ∙ ap (λ o. unwrap_or o 0) (slice_get-map (λ (e : TableEntry). e.width) entries id ∙ ap (option_map (λ (e : TableEntry). e.width)) none)

-- a kept width is the node's, and from 1 to 64
pub kept_width_in_bounds : (inputs : ℕ) (entries : List TableEntry) (id : ℕ) (e : TableEntry) →
    AllFit inputs (nodes_of entries) → kept_widths entries ≡ widths_of (nodes_of entries) →
    id < length (nodes_of entries) → slice_get entries id ≡ Some e →
    (0 < e.width) × (e.width ≤ 64)
kept_width_in_bounds inputs entries id e all kept there read =
    let is : e.width ≡ width_in (nodes_of entries) id = sym (get_or-kept_widths entries id e read) ∙ ap (λ (ws : List ℕ). get_or ws id 0) kept in
    rw is (width_in_bounds inputs (nodes_of entries) all id there)

-- one entry more
pub nodes_of-push : (entries : List TableEntry) (e : TableEntry) →
    nodes_of (entries ++ e ∷ []) ≡ nodes_of entries ++ e.node ∷ []
nodes_of-push entries e = map-append (λ (e : TableEntry). e.node) entries (e ∷ [])

pub kept_widths-push : (entries : List TableEntry) (e : TableEntry) →
    kept_widths (entries ++ e ∷ []) ≡ kept_widths entries ++ e.width ∷ []
kept_widths-push entries e = map-append (λ (e : TableEntry). e.width) entries (e ∷ [])

-- the first entries
pub nodes_of-take : (n : ℕ) (entries : List TableEntry) →
    nodes_of (take n entries) ≡ take n (nodes_of entries)
nodes_of-take n entries = sym (take-map (λ (e : TableEntry). e.node) n entries)

pub kept_widths-take : (n : ℕ) (entries : List TableEntry) →
    kept_widths (take n entries) ≡ take n (kept_widths entries)
kept_widths-take n entries = sym (take-map (λ (e : TableEntry). e.width) n entries)
