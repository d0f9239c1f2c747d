-- Lists of updates as a run keeps them, and what holds of them on each assignment.
use Rattle.std.specs.Prelude.{◌≡◌, ℕ, ◌+◌, ◌*◌, ◌/◌, ◌%◌, ◌^◌, ◌==◌, ◌<◌, ◌≤◌, true, List, [], ◌∷◌, All, map, if◌then◌else◌}
use Rattle.bv_dag.specs.Graphs.{Graph, number_of, width_of}
use Rattle.cow_pages.specs.SymbolicMemory.{SymbolicMemory}
use Rattle.term_trees.specs.Trees.{tree_of}
use Rattle.sym_state.specs.Expressions.{value_expression}
use Rattle.sym_state.specs.Loading.{bytes}
use Rattle.sym_state.specs.Placing.{HasBytes, bytes_expressed, bytes_worth}
use Rattle.sym_state.specs.Updates.{ExpressedUpdates, Update, UpdateList, is_at}
use Rattle.sym_state.specs.Values.{IsWide, worth_of}
use Rattle.sym_state.specs.declared.updates.Site.{Site}
use Rattle.sym_state.specs.declared.updates.Update as code

abbrev pub KeptUpdates : Type 0
KeptUpdates = UpdateList SymbolicMemory code.Update

-- ---- As expressions.
abbrev pub update_expressed : Graph → code.Update → Update
update_expressed terms one = record {
  bits = tree_of terms one.bits;
  value = value_expression terms one.value;
}

abbrev pub list_expressed : Graph → KeptUpdates → ExpressedUpdates
list_expressed terms t = record {
  site = t.site;
  before = bytes_expressed terms t.before;
  stored = map (update_expressed terms) t.stored;
}

abbrev pub updates_expressed : Graph → List KeptUpdates → List ExpressedUpdates
updates_expressed terms updates = map (list_expressed terms) updates

-- ---- On an assignment.
-- the place to which these bits led
abbrev pub came_to : Graph → Site → (bits : ℕ) → List ℕ → ℕ
came_to terms site bits input =
    site.stride.start + number_of terms bits input * 2 ^ site.stride.scale

-- the byte at an address after one store, where it was this before
abbrev pub byte_with : Graph → Site → List ℕ → (address : ℕ) → code.Update → (before : ℕ) → ℕ
byte_with terms site input address one before =
    if address / bytes site.width * bytes site.width == came_to terms site one.bits input
    then worth_of terms input one.value / 2 ^ (8 * (address % bytes site.width)) % 2 ^ 8
    else before

-- and after several
abbrev pub byte_with_all : Graph → Site → List ℕ → (address : ℕ) → List code.Update → (before : ℕ) → ℕ
byte_with_all terms site input address [] before = before
byte_with_all terms site input address (one ∷ others) before =
    byte_with_all terms site input address others
    (byte_with terms site input address one before)

-- bits for a stride, and a value
pub record IsUpdate (terms : Graph) (site : Site) (one : code.Update) : Type 0 where
  pub bits : width_of terms one.bits ≡ site.stride.count
  pub wide : IsWide terms one.value

-- each byte of its places is what the stores made of the byte before them
pub record AreUpdates (terms : Graph) (memory : SymbolicMemory) (t : KeptUpdates) : Type 0 where
  pub some : 0 < t.site.stride.count
  pub short : t.site.stride.scale + t.site.stride.count ≤ 31
  pub before : HasBytes terms t.before
  pub each : All (IsUpdate terms t.site) t.stored
  pub holds : (input : List ℕ) → All (λ b. b < 256) input → (address : ℕ)
      → is_at t.site address ≡ true
      → bytes_worth terms memory input address
      ≡ byte_with_all terms t.site input address t.stored (bytes_worth terms t.before input address)
