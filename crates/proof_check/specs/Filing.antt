-- Clauses that are filed by their last literals, so that few have to be looked at. Only private functions and types speak
-- of this.
use Rattle.std.specs.Prelude.{◌≡◌, ℕ, ◌+◌, ◌-◌, ◌*◌, ◌<◌, ◌≤◌, ◌==◌, ◌&&◌, ◌⊎◌, Bool, List, [], ◌∷◌, Option, Some, length, map, slice_get, slice_index_or, if◌then◌else◌}
use Rattle.std.specs.List.{list_any}
use Rattle.cnf_form.specs.Literals.{Literal}
use Rattle.cnf_form.specs.Propagation.{is_falsified}

-- the key of a literal, from 2
abbrev pub literal_key : Literal → ℕ
literal_key l = if l.positive then l.variable * 2 + 1 else l.variable * 2

-- the key of a clause: its last literal's, and 0 for the empty clause
unfoldable pub clause_key : List Literal → ℕ
clause_key [] = 0
clause_key (l ∷ []) = literal_key l
clause_key (l ∷ k ∷ ls) = clause_key (k ∷ ls)

abbrev pub keys_of : List (List Literal) → List ℕ
keys_of clauses = map clause_key clauses

-- whether one of the clauses of this key is false
abbrev pub has_falsified : (ℕ → Option Bool) → List (List Literal) → ℕ → Bool
has_falsified a clauses key = list_any (λ c. (clause_key c == key) && is_falsified a c) clauses

-- whether one is false that ends in one of these literals
abbrev pub has_falsified_end : (ℕ → Option Bool) → List (List Literal) → List Literal → Bool
has_falsified_end a clauses c = list_any (λ l. has_falsified a clauses (literal_key l)) c

-- a chain for each key: the number of the last place under it, and for each place the number of the one before it under
-- the same key. Places are numbered from 1, and 0 ends a chain
pub record Chains : Type 0 where
  pub lasts : List ℕ
  pub earlier : List ℕ

-- n is the number of the last of the first places at which the key stands, or 0 where it stands at none of them
pub record IsLastFiled (keys : List ℕ) (first key n : ℕ) : Type 0 where
  pub there : (n ≡ 0) ⊎ ((n ≤ first) × (slice_get keys (n - 1) ≡ Some key))
  pub last : (k : ℕ) → k < first → slice_get keys k ≡ Some key → k < n

-- each place is in the chain of its key
pub record AreFiled (keys : List ℕ) (chains : Chains) : Type 0 where
  pub size : length chains.earlier ≡ length keys
  pub lasts : (key : ℕ) → IsLastFiled keys (length keys) key (slice_index_or chains.lasts key 0)
  pub earlier : (k key : ℕ) → slice_get keys k ≡ Some key
      → IsLastFiled keys k key (slice_index_or chains.earlier k 0)
