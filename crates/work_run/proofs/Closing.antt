-- A tree whose workers have all ended.
use Rattle.std.proofs.Common.{◌≡◌, ℕ, ◌<◌, ◌≤◌, true, false, [], drop, length, sym, refl, ap, ◌∙◌, subst, arith}
use Rattle.std.specs.Prelude.{Result, Ok, Err, IfOk}
use Rattle.std.specs.List.{All}
use Rattle.std.proofs.lemmas.List.Elements.{All-append, All-weaker}
use Rattle.tree_core.specs.Cores.{held_count}
use Rattle.tree_core.specs.Stories.{Story}
use Rattle.tree_core.specs.declared.event.Event.{Event}
use Rattle.fork_tree.proofs.Releases.{releases-own}
use Rattle.fork_spec.specs.Histories.{ReleaseOnce}
use Rattle.fork_tree.specs.Calls.{IsOpening}
use Rattle.fork_tree.specs.Drains.{GrowsBy}
use Rattle.fork_tree.specs.declared.content.Content.{Content}
use Rattle.turn_lock.specs.Growth.{StartsWith, by_number}
use Rattle.turn_lock.specs.Passes.{AllEnded, AreOf}
use Rattle.turn_lock.proofs.Growths.{starts_trans}
use Rattle.work_run.specs.Runs.{GoesOn, HasRun, MayRun}
use Rattle.work_run.specs.Seen.{KnownOf}
use Rattle.work_run.proofs.Claims.{none_held}
use Rattle.work_run.proofs.Numbers.{all-below}
use Rattle.work_run.proofs.Running.{all_turns}
use Rattle.work_run.proofs.Turning.{one_release}

module _ {F R : Type 0} where
  -- what the first pass knows of a lock that was made on this tree
  abbrev pub opened_as : F → Story R → KnownOf F R
  opened_as x s = record {
    fixed = x;
    live = true;
    number = 0;
    has_turn = false;
    nodes = s.nodes;
    events = s.events;
    opened = length s.events;
    own = [];
    ended = [];
    made = 1;
  }

  pub may_open : (worker x : F) (s : Story R) (v : KnownOf F R) → v ≡ opened_as x s →
      s.events ≡ [] → x ≡ worker → MayRun worker 1 v
  may_open worker x s v is none same =
      subst (MayRun worker 1) (sym is)
      (record {
        may = record { turn = refl; opened = ap length none; fixed = same; fresh = refl };
        number = refl;
        made = refl;
        none = refl;
      })

  module _ (t : Story R) (v w : KnownOf F R) (last : ℕ) (run : HasRun 1 last v w) where
    pub all_ended : AllEnded w
    all_ended = λ k nz below. run.ended k (some k nz) below
      where
        some : (k : ℕ) → (k ≡ 0 → ⊥) → 1 ≤ k
        some k nz = omega arith

    pub closed_goes : (x : F) (s : Story R) → v ≡ opened_as x s →
        StartsWith t.nodes w.nodes × StartsWith t.events w.events → GoesOn s t
    closed_goes x s is seen = (
      starts_trans s.nodes w.nodes t.nodes
          (subst (λ (k : KnownOf F R). StartsWith w.nodes k.nodes) is run.seen.0) seen.0,
      starts_trans s.events w.events t.events
          (subst (λ (k : KnownOf F R). StartsWith w.events k.events) is run.seen.1) seen.1,
    )

    pub closed_none : AreOf (λ (e : Event R ℕ). e.by) w t.events → held_count t ≡ 0
    closed_none are =
        none_held t
        (all_turns w t.events run.number run.opened run.own run.each all_ended are)

    -- each worker gave up one node at most
    pub closed_releases : AreOf (λ (e : Event R ℕ). e.by) w t.events → ReleaseOnce t.events
    closed_releases are k =
        subst (λ n. n ≤ 1) (sym (releases-own k t.events))
        (one_release (by_number (λ (e : Event R ℕ). e.by) k t.events)
        (all_turns w t.events run.number run.opened run.own run.each all_ended are k))

    pub closed_few : (workers : ℕ) → last ≡ workers →
        AreOf (λ (e : Event R ℕ). e.by) w t.events →
        All (λ (e : Event R ℕ). e.by < workers) t.events
    closed_few workers is are =
        all-below workers t.events (λ k le. subst
        (λ n. by_number (λ (e : Event R ℕ). e.by) k (drop n t.events) ≡ []) run.opened
        (are.others k (over k w.made le (run.made ∙ is))))
      where
        over : (k made : ℕ) → workers ≤ k → made ≡ workers → made ≤ k
        over k made a b = omega arith

module _ {R : Type 0} where
  -- what the first worker does after the others
  pub few_grown : (workers : ℕ) (s t : Story R) → 1 ≤ workers → GrowsBy 0 s t →
      All (λ (e : Event R ℕ). e.by < workers) s.events →
      All (λ (e : Event R ℕ). e.by < workers) t.events
  few_grown workers s t some grows few =
      let P : Event R ℕ → Type 0 = λ e. e.by < workers in
      subst (All P) (sym grows.3) (All-append P s.events grows.1 few
      (All-weaker (λ (e : Event R ℕ). e.by ≡ 0) P (λ e is. low e.by is) grows.1 grows.4))
    where
      low : (k : ℕ) → k ≡ 0 → k < workers
      low k is = omega (arith, some)

  pub goes_grown : (r s t : Story R) → GoesOn r s → GrowsBy 0 s t → GoesOn r t
  goes_grown r s t goes grows = (
    starts_trans r.nodes s.nodes t.nodes goes.0 (grows.0, grows.2),
    starts_trans r.events s.events t.events goes.1 (grows.1, grows.3),
  )

pub opening_fresh : {S L : Type 0} (root : S) (s : Story (Content S L)) → IsOpening root s →
    s.events ≡ []
opening_fresh {S} {L} root s opens = ap (λ (x : Story (Content S L)). x.events) opens.1

-- the tree that the root opened is one that the answer goes on from
pub opening_all : {S L T E : Type 0} (root : S) (old : Story (Content S L))
    (story : T → Story (Content S L)) (answer : Result T E) → IsOpening root old →
    IfOk answer (λ t. GoesOn old (story t)) →
    IfOk answer (λ t. (o : Story (Content S L)) × IsOpening root o × GoesOn o (story t))
opening_all root old story (Ok t) opens goes = (old, opens, goes)
opening_all root old story (Err e) opens goes = goes
