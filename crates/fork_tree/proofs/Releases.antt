-- How many nodes a worker gave up, by a list of events.
use Rattle.std.proofs.Common.{◌≡◌, ℕ, ◌+◌, ◌≤◌, eqb, Bool, true, false, ◌&&◌, cond, List, [], ◌∷◌, ◌++◌, Option, count_by, filter, refl, sym, ap, subst, ◌∙◌, arith}
use Rattle.std.specs.Global.{Vec}
use Rattle.std.proofs.lemmas.List.Sums.{count_by-le-length, sum_by-append, sum_by-cons}
use Rattle.tree_core.specs.Replays.{kept, with_event}
use Rattle.tree_core.specs.Stories.{Story}
use Rattle.tree_core.specs.Nodes.{Node}
use Rattle.tree_core.specs.declared.cause.Cause.{Cause}
use Rattle.tree_core.specs.declared.event.Event.{Event}
use Rattle.tree_core.specs.declared.event.Deed.{Deed}
use Rattle.tree_core.specs.declared.event.Deed.TheVariants.{Claim, Split, Finish, Cut, Release}
use Rattle.tree_core.specs.declared.event.Kid.{Kid}
use Rattle.fork_spec.specs.Histories.{ReleaseOnce, is_release, releases_by}
use Rattle.fork_spec.specs.Walks.{Line}
use Rattle.fork_tree.specs.Written.{born_by, lines_from, lines_of, written_deed}

zero_and : (n : ℕ) → 0 + n ≡ n
zero_and n = omega arith

-- what passes two tests, among what passes the first
count_both : {X : Type 0} (p q : X → Bool) (xs : List X) → count_by (λ x. p x && q x) xs ≡ count_by q (filter p xs)
count_both p q [] = refl
count_both p q (x ∷ xs) = sum_by-cons (λ y. cond (p y && q y) 1 0) x xs ∙ (ap (λ n. cond (p x && q x) 1 0 + n) (count_both p q xs) ∙ first (p x))
  where
    first : (b : Bool) → cond (b && q x) 1 0 + count_by q (filter p xs) ≡ count_by q (cond b (x ∷ filter p xs) (filter p xs))
    first true = sym (sum_by-cons (λ y. cond (q y) 1 0) x (filter p xs))
    first false = zero_and (count_by q (filter p xs))

module _ {R K : Type 0} where
  -- one list behind another adds its own
  pub releases-append : (by : ℕ) (xs ys : List (Event R K)) → releases_by by (xs ++ ys) ≡ releases_by by xs + releases_by by ys
  releases-append by xs ys = sum_by-append (λ (e : Event R K). cond (eqb e.by by && is_release e.deed) 1 0) xs ys

  -- they are the releases among the worker's own events
  pub releases-own : (by : ℕ) (es : List (Event R K)) → releases_by by es ≡ count_by (λ (e : Event R K). is_release e.deed) (filter (λ (e : Event R K). eqb e.by by) es)
  releases-own by es = count_both (λ (e : Event R K). eqb e.by by) (λ (e : Event R K). is_release e.deed) es

module _ {R : Type 0} where
  releases_noted : (by : ℕ) (s t : Story R) (e : Event R (Vec (Kid R))) → t ≡ with_event s e → releases_by by t.events ≡ releases_by by s.events + releases_by by (kept e ∷ [])
  releases_noted by s t e is = ap (λ (x : Story R). releases_by by x.events) is ∙ releases-append by s.events (kept e ∷ [])

  -- a story that is the same
  pub releases_same : (s t : Story R) → t ≡ s → (by : ℕ) → releases_by by t.events ≡ releases_by by s.events
  releases_same s t is by = ap (λ (x : Story R). releases_by by x.events) is

  -- one event more, which is no release
  pub releases_kept : (s t : Story R) (e : Event R (Vec (Kid R))) → t ≡ with_event s e → is_release (kept e).deed ≡ false → (by : ℕ) → releases_by by t.events ≡ releases_by by s.events
  releases_kept s t e is none by = releases_noted by s t e is ∙ (ap (λ n. releases_by by s.events + n) (nothing (eqb e.by by) (is_release (kept e).deed) none) ∙ and_zero (releases_by by s.events))
    where
      nothing : (a b : Bool) → b ≡ false → 0 + cond (a && b) 1 0 ≡ 0
      nothing true b is = ap (λ c. 0 + cond c 1 0) is
      nothing false b is = refl

      and_zero : (n : ℕ) → n + 0 ≡ n
      and_zero n = omega arith

  -- one event more, whatever it is
  pub releases_more : (s t : Story R) (e : Event R (Vec (Kid R))) → t ≡ with_event s e → (by : ℕ) → releases_by by t.events ≤ releases_by by s.events + 1
  releases_more s t e is by =
      at_most (releases_by by t.events) (releases_by by s.events) (releases_by by (kept e ∷ [])) (releases_noted by s t e is)
      (count_by-le-length (λ (x : Event R ℕ). eqb x.by by && is_release x.deed) (kept e ∷ []))
    where
      at_most : (c a b : ℕ) → c ≡ a + b → b ≤ 1 → c ≤ a + 1
      at_most c a b sum one = omega arith

  -- none at first, and then one at most
  pub none_then_one : (s t u : Story R) → ((by : ℕ) → releases_by by t.events ≡ releases_by by s.events) → ((by : ℕ) → releases_by by u.events ≤ releases_by by t.events + 1)
      → (by : ℕ) → releases_by by u.events ≤ releases_by by s.events + 1
  none_then_one s t u none one by = subst (λ n. releases_by by u.events ≤ n + 1) (none by) (one by)

  -- where there is none there is one at most
  pub none_so_one : (s t : Story R) → ((by : ℕ) → releases_by by t.events ≡ releases_by by s.events) → (by : ℕ) → releases_by by t.events ≤ releases_by by s.events + 1
  none_so_one s t none by = weaker (releases_by by t.events) (releases_by by s.events) (none by)
    where
      weaker : (a b : ℕ) → a ≡ b → a ≤ b + 1
      weaker a b same = omega arith

  -- none more than where each worker gave up one at most
  pub once_kept : (s t : Story R) → ((by : ℕ) → releases_by by t.events ≡ releases_by by s.events) → ReleaseOnce s.events → ReleaseOnce t.events
  once_kept s t none once by = subst (λ n. n ≤ 1) (sym (none by)) (once by)

module _ {R : Type 0} (cut : R → Option Cause) where
  same_deed : (nodes : List (Node R)) (first : ℕ) (d : Deed R ℕ) → is_release (written_deed cut nodes first d) ≡ is_release d
  same_deed nodes first Claim = refl
  same_deed nodes first (Split count) = refl
  same_deed nodes first (Finish leaf) = refl
  same_deed nodes first (Cut leaf) = refl
  same_deed nodes first Release = refl

  releases-from : (by : ℕ) (nodes : List (Node R)) (first : ℕ) (es : List (Event R ℕ)) → releases_by by (lines_from cut nodes first es) ≡ releases_by by es
  unfolding lines_from
  releases-from by nodes first [] = refl
  releases-from by nodes first (e ∷ es) =
      let line : Line = record { by = e.by; node = e.node; deed = written_deed cut nodes first e.deed } in
      let rest : List Line = lines_from cut nodes (first + born_by e.deed) es in
      sum_by-cons (λ (l : Line). cond (eqb l.by by && is_release l.deed) 1 0) line rest
      ∙ ((λ i. cond (eqb e.by by && same_deed nodes first e.deed i) 1 0 + releases-from by nodes (first + born_by e.deed) es i)
      ∙ sym (sum_by-cons (λ (x : Event R ℕ). cond (eqb x.by by && is_release x.deed) 1 0) e es))

  -- what is written of a story says as many
  pub releases-written : (s : Story R) (by : ℕ) → releases_by by (lines_of cut s) ≡ releases_by by s.events
  releases-written s by = releases-from by s.nodes 1 s.events

  pub once_written : (s : Story R) → ReleaseOnce s.events → ReleaseOnce (lines_of cut s)
  once_written s once by = subst (λ n. n ≤ 1) (sym (releases-written s by)) (once by)
