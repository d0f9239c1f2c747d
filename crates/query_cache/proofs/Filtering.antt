-- What fingerprints say of what a query asks.
use Rattle.std.proofs.Common.{◌≡◌, ℕ, Some, ◌⊎◌, inl, inr, List, [], ◌∷◌, fold, sym, ap, ◌∙◌, subst}
use Rattle.std.specs.Prelude.{Contains, bit_and, bit_or}
use Rattle.std.specs.List.{slice_get}
use Rattle.std.proofs.lemmas.Option.{get_or_from_slice_get, slice_get_within}
use Rattle.std.proofs.lemmas.Nat.{and_assoc, and_or_self, or_comm}
use Rattle.bv_dag.specs.Queries.{Condition}
use Rattle.term_trees.specs.Subsets.{AsksNoMore}
use Rattle.term_trees.specs.TreeSlices.{asserted_trees}
use Rattle.query_pick.proofs.Lists.{Contains-from_map, Contains-map, Contains-none, Contains-uncons}
use Rattle.query_cache.specs.Fingerprints.{bit_of, bits_of, prints_of, tree_print}

-- what stands at a place is there
pub Contains-slice_get : (xs : List ℕ) (k x : ℕ) → slice_get xs k ≡ Some x → Contains xs x
Contains-slice_get xs k x is = (k, slice_get_within xs k x is, get_or_from_slice_get xs k x x is)

-- a bit that is there stays
bit_stays : (seen more bit : ℕ) → bit_and seen bit ≡ bit → bit_and (bit_or seen more) bit ≡ bit
bit_stays seen more bit h =
    ap (bit_and (bit_or seen more)) (sym h)
    ∙ sym (and_assoc bit (bit_or seen more) seen)
    ∙ ap (λ n. bit_and (bit_and n seen) bit) (or_comm seen more)
    ∙ ap (λ n. bit_and n bit) (and_or_self seen more)
    ∙ h

bit_seen : (prints : List ℕ) (seen print : ℕ) → (Contains prints print ⊎ (bit_and seen (bit_of print) ≡ bit_of print))
    → bit_and (fold (λ seen print. bit_or seen (bit_of print)) seen prints) (bit_of print) ≡ bit_of print
bit_seen [] seen print either = elim either [ inl none ↦ Contains-none print none _ | inr h ↦ h ]
bit_seen (p ∷ prints) seen print either =
    bit_seen prints (bit_or seen (bit_of p)) print (elim either [
      | inl h ↦ elim (Contains-uncons p prints print h) [
        | inl e ↦ inr (ap (λ n. bit_and (bit_or seen (bit_of p)) (bit_of n)) e ∙ and_or_self (bit_of p) seen ∙ ap bit_of (sym e))
        | inr rest ↦ inl rest
      ]
      | inr h ↦ inr (bit_stays seen (bit_of p) (bit_of print) h)
    ])

-- each of some fingerprints has its bit
pub bit_there_where_contains : (prints : List ℕ) (print : ℕ) → Contains prints print → bit_and (bits_of prints) (bit_of print) ≡ bit_of print
unfolding bits_of
bit_there_where_contains prints print h = bit_seen prints 0 print (inl h)

-- a query that asks no more has no other fingerprints
pub prints_among : (less more : Condition) (print : ℕ) → AsksNoMore less more → Contains (prints_of less) print → Contains (prints_of more) print
prints_among less more print asks h =
    let t = Contains-from_map tree_print (asserted_trees less) print h in
    subst (Contains (prints_of more)) t.2 (Contains-map tree_print (asserted_trees more) t.0 (asks.trees t.0 t.1))
