-- The guards of an event: how its node stands, and how many nodes there are.
use Rattle.std.proofs.Common.{◌≡◌, ℕ, ◌&&◌, Bool, true, false, not, IsTrue, IsFalse, if◌then◌else◌, length, refl, sym, ap, ◌∙◌}
use Rattle.std.specs.Global.{Vec}
use Rattle.std.proofs.lemmas.Bool.{and_parts}
use Rattle.tree_core.specs.declared.event.Event.{Event}
use Rattle.tree_core.specs.declared.event.Kid.{Kid}
use Rattle.tree_core.specs.Stories.{Story}
use Rattle.tree_core.specs.Replays.{after_event, is_allowed, is_early, is_full, has_room, may_come, with_event}

both : (a b c : Bool) → IsTrue a → IsFalse b → IsFalse c → IsTrue (a && (not b && not c))
both true false false x y z = refl
both true false true x y z = cc
both true true c x y z = cc
both false b c x y z = cc

pub no_longer : (p : ℕ → Bool) (b : Bool) (now nodes : ℕ) → b ≡ p now → now ≡ nodes → b ≡ false → IsFalse (p nodes)
no_longer p b now nodes test same passed = sym (test ∙ ap p same) ∙ passed

pub cannot : (b : Bool) → IsFalse b → IsTrue b → ⊥
cannot true barred may = cc
cannot false barred may = cc

module _ {R : Type 0} (by_nodes : R → Bool) (most : ℕ) (s : Story R) (e : Event R (Vec (Kid R))) where
  pub allowed-may : IsTrue (may_come by_nodes most s e) → IsTrue (is_allowed s e)
  allowed-may may = (and_parts (is_allowed s e) (has_room by_nodes most (length s.nodes) e.deed) may).0

  pub may-all : IsTrue (is_allowed s e) → IsFalse (is_full most (length s.nodes) e.deed) → IsFalse (is_early by_nodes most (length s.nodes) e.deed) → IsTrue (may_come by_nodes most s e)
  may-all x y z = both (is_allowed s e) (is_full most (length s.nodes) e.deed) (is_early by_nodes most (length s.nodes) e.deed) x y z

  -- what may come is noted
  pub noted_after : (t : Story R) → IsTrue (may_come by_nodes most s e) → t ≡ with_event s e → t ≡ after_event by_nodes most s e
  noted_after t may is = is ∙ sym (ap (λ (b : Bool). if b then with_event s e else s) may)
