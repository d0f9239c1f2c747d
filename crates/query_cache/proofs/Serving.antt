-- What a shard's entries say of a query, and what stays true of them.
use Rattle.std.proofs.Common.{◌≡◌, ◌↔◌, ℕ, Bool, true, false, inl, inr, List, [], ◌∷◌, refl, sym, subst, Some, None}
use Rattle.std.specs.Prelude.{All, Contains, IsPermutation, Option}
use Rattle.std.specs.Map.{lookup, lookup_entry, remove_entry}
use Rattle.std.specs.Option.{option_map_or}
use Rattle.std.proofs.lemmas.List.Elements.{All-contains}
use Rattle.std.proofs.lemmas.List.Sorted.{All-permutation, IsPermutation-cons, IsPermutation-middle, IsPermutation-refl, IsPermutation-trans}
use Rattle.bv_dag.specs.Comparing.{condition_eq}
use Rattle.bv_dag.specs.Queries.{Condition}
use Rattle.bv_dag.proofs.Same.{condition_same}
use Rattle.lru.specs.LruCache.{LruCache, lru_cache, promoted, put_entries}
use Rattle.lru.proofs.CallerLemmas.{Contains-lookup, Contains-put_entries}
use Rattle.term_trees.specs.Subsets.{AsksNoMore}
use Rattle.term_trees.proofs.SubsetLaws.{holds-less, unsatisfiable-more}
use Rattle.query_pick.proofs.Lists.{All-from_contains}
use Rattle.query_cache.specs.Answers.{IsAnswer}
use Rattle.query_cache.specs.Caches.{IsFound, IsShard, Serves, KeptAnswers}
use Rattle.query_cache.specs.declared.satisfiability.Satisfiability.{Satisfiability}
use Rattle.query_cache.specs.declared.satisfiability.Satisfiability.TheVariants.{Sat, Unsat}

-- a query asks no more than itself
asks_itself : (q : Condition) → AsksNoMore q q
asks_itself q = record { inputs = refl; trees = λ t h. h }

-- where some bytes meet a query, just those that ask no more are answered
pub serves_sat : (asked kept : Condition) (answer : Satisfiability) (input : List ℕ) → answer ≡ Sat input → AsksNoMore asked kept ↔ Serves asked (kept, answer)
serves_sat asked kept answer input is =
    subst (λ (a : Satisfiability). AsksNoMore asked kept ↔ Serves asked (kept, a)) (sym is) (
      λ asks. inr asks,
      λ serves. elim serves [ inl e ↦ subst (AsksNoMore asked) (sym e) (asks_itself asked) | inr asks ↦ asks ],
    )

-- where none do, those that ask no less
pub serves_unsat : (asked kept : Condition) (answer : Satisfiability) → answer ≡ Unsat → AsksNoMore kept asked ↔ Serves asked (kept, answer)
serves_unsat asked kept answer is =
    subst (λ (a : Satisfiability). AsksNoMore kept asked ↔ Serves asked (kept, a)) (sym is) (
      λ asks. inr asks,
      λ serves. elim serves [ inl e ↦ subst (λ (q : Condition). AsksNoMore q asked) (sym e) (asks_itself asked) | inr asks ↦ asks ],
    )

answered : (asked kept : Condition) (answer : Satisfiability) → IsAnswer kept answer → Serves asked (kept, answer) → IsAnswer asked answer
answered asked kept (Sat input) right serves =
    elim serves [ inl e ↦ subst (λ (q : Condition). IsAnswer q (Sat input)) e right | inr asks ↦ holds-less asked kept input asks right ]
answered asked kept Unsat right serves =
    elim serves [ inl e ↦ subst (λ (q : Condition). IsAnswer q Unsat) e right | inr asks ↦ unsatisfiable-more kept asked asks right ]

abbrev pub IsRight : Condition × Satisfiability → Type 0
IsRight e = IsAnswer e.0 e.1

-- what serves is found, and true of the query
pub found : (kept : KeptAnswers) (asked key : Condition) (answer given : Satisfiability) → All IsRight kept → Contains kept (key, answer) → Serves asked (key, answer) → answer ≡ given
    → IsFound kept asked (Some given)
found kept asked key answer given right there serves same =
    (subst (IsAnswer asked) same (answered asked key answer (All-contains IsRight kept (key, answer) right there) serves), ((key, answer), there, serves, same))

-- an entry of the same query is found
pub found_same : (kept : KeptAnswers) (asked : Condition) (answer given : Satisfiability) → All IsRight kept → Some answer ≡ lookup (condition_eq asked) kept → answer ≡ given
    → IsFound kept asked (Some given)
found_same kept asked answer given right is same =
    let key = Contains-lookup (condition_eq asked) kept answer (sym is) in
    found kept asked key.0 answer given right key.1 (inl (sym (condition_same asked key.0 key.2))) same

module _ {K X : Type 0} (test : K → Bool) where
  to_front : (es : List (K × X)) (e : K × X) → lookup_entry test es ≡ Some e → IsPermutation es (e ∷ remove_entry test es)
  to_front [] e h = cc
  to_front (f ∷ es) e h = (elim (test f.0) as (λ y. test f.0 ≡ y → IsPermutation (f ∷ es) (e ∷ remove_entry test (f ∷ es))) [
    | true ↦ λ t. let h' = rw t at h in let same : f ≡ e = cc in rw t (subst (λ g. IsPermutation (f ∷ es) (g ∷ es)) same (IsPermutation-refl (f ∷ es)))
    | false ↦ λ t. rw t (IsPermutation-trans (f ∷ es) (f ∷ e ∷ remove_entry test es) (e ∷ f ∷ remove_entry test es)
        (IsPermutation-cons f es (e ∷ remove_entry test es) (to_front es e (rw t at h))) (IsPermutation-middle (f ∷ []) e (remove_entry test es)))
  ]) refl

  promoted_by : (es : List (K × X)) (o : Option (K × X)) → lookup_entry test es ≡ o → IsPermutation es (option_map_or (λ e. e ∷ remove_entry test es) o es)
  promoted_by es None h = IsPermutation-refl es
  promoted_by es (Some e) h = to_front es e h

  -- an entry that is used last changes its place
  pub promoted_same : (es : List (K × X)) → IsPermutation es (promoted test es)
  promoted_same es = promoted_by es (lookup_entry test es) refl

pub promoted_view : (test : Condition → Bool) (view : KeptAnswers) (old new : LruCache Condition Satisfiability) → old.entries ≡ view → new ≡ lru_cache (promoted test old.entries) old.cap
    → IsPermutation view new.entries
promoted_view test view old new are is =
    subst (λ (c : LruCache Condition Satisfiability). IsPermutation view c.entries) (sym is)
    (subst (λ (kept : KeptAnswers). IsPermutation kept (promoted test old.entries)) are (promoted_same test old.entries))

-- a shard of which one is used last is a shard
pub shard_promoted : (test : Condition → Bool) (old new : LruCache Condition Satisfiability) → new ≡ lru_cache (promoted test old.entries) old.cap → IsShard old → IsShard new
shard_promoted test old new is shard =
    subst IsShard (sym is) (record {
      cap = shard.cap;
      right = All-permutation IsRight old.entries (promoted test old.entries) (promoted_same test old.entries) shard.right;
    })

-- and so is one into which an entry was put
pub shard_put : (old new : LruCache Condition Satisfiability) (key : Condition) (answer : Satisfiability) → new ≡ lru_cache (put_entries condition_eq old key answer) old.cap
    → IsShard old → IsAnswer key answer → IsShard new
shard_put old new key answer is shard right =
    subst IsShard (sym is) (record {
      cap = shard.cap;
      right = All-from_contains IsRight (put_entries condition_eq old key answer) (λ e h. elim (Contains-put_entries condition_eq old key answer e h) [
        | inl was ↦ All-contains IsRight old.entries e shard.right was
        | inr put ↦ elim put.1 [
          | inl own ↦ subst (IsAnswer e.0) (sym put.0) (subst (λ (q : Condition). IsAnswer q answer) (sym own) right)
          | inr other ↦ subst (IsAnswer e.0) (sym put.0) (subst (λ (q : Condition). IsAnswer q answer) (condition_same key e.0 other.2) right)
        ]
      ]);
    })
