-- Questions on which a budget was spent, put among others and found there.
use Rattle.std.proofs.Common.{◌≡◌, inl, inr, List, length, sym, subst, Some}
use Rattle.std.specs.Prelude.{All}
use Rattle.std.specs.Map.{lookup}
use Rattle.std.proofs.lemmas.List.Elements.{All-contains}
use Rattle.bv_dag.specs.Comparing.{condition_eq}
use Rattle.bv_dag.specs.Queries.{Condition}
use Rattle.bv_dag.proofs.Same.{condition_same}
use Rattle.circuit_spec.specs.Budgets.{IsSpent}
use Rattle.cnf_form.specs.Refutations.{Step}
use Rattle.lru.specs.LruCache.{LruCache, lru_cache, put_entries}
use Rattle.lru.proofs.CallerLemmas.{Contains-lookup, Contains-put_entries}
use Rattle.query_pick.proofs.Lists.{All-from_contains}
use Rattle.query_front.specs.Spents.{AreSpent, KeptLogs}

abbrev IsRight : Condition × List Step → Type 0
IsRight e = IsSpent e.0 (length e.1) e.1

-- one that is put among them
pub spent_put : (old new : LruCache Condition (List Step)) (key : Condition) (log : List Step) → new ≡ lru_cache (put_entries condition_eq old key log) old.cap
    → AreSpent old.entries → IsSpent key (length log) log → AreSpent new.entries
spent_put old new key log is kept right =
    subst (λ (c : LruCache Condition (List Step)). AreSpent c.entries) (sym is)
    (All-from_contains IsRight (put_entries condition_eq old key log) (λ e h. elim (Contains-put_entries condition_eq old key log e h) [
      | inl was ↦ All-contains IsRight old.entries e kept was
      | inr put ↦ elim put.1 [
        | inl own ↦ subst (λ (l : List Step). IsSpent e.0 (length l) l) (sym put.0) (subst (λ (q : Condition). IsSpent q (length log) log) (sym own) right)
        | inr other ↦ subst (λ (l : List Step). IsSpent e.0 (length l) l) (sym put.0) (subst (λ (q : Condition). IsSpent q (length log) log) (condition_same key e.0 other.2) right)
      ]
    ]))

-- one that is found by an equal question
pub spent_found : (kept : KeptLogs) (asked : Condition) (log given : List Step) → AreSpent kept → Some log ≡ lookup (condition_eq asked) kept → log ≡ given → IsSpent asked (length given) given
spent_found kept asked log given right is same =
    let key = Contains-lookup (condition_eq asked) kept log (sym is) in
    subst (λ (l : List Step). IsSpent asked (length l) l) same
    (subst (λ (q : Condition). IsSpent q (length log) log) (sym (condition_same asked key.0 key.2)) (All-contains IsRight kept (key.0, log) right key.1))
