-- What a pass knows, and its view in the table.
use Rattle.std.proofs.Common.{◌≡◌, Option, Some, None, refl, subst}
use Rattle.std.specs.Prelude.{IsSome}
use Rattle.std.proofs.lemmas.Bool.{false≢true}
use Rattle.turn_lock.specs.declared.known.Known.{Known}
use Rattle.turn_lock.specs.Hands.{content_of, seen_as}

pub content_same : {X : Type 0} (o : Option X) (a b : IsSome o) → content_of o a ≡ content_of o b
content_same None a b = absurd (false≢true a)
content_same (Some x) a b = refl

pub content_is : {X : Type 0} (o : Option X) (a : IsSome o) (x : X) → Some x ≡ o →
    x ≡ content_of o a
content_is None a x e = absurd (false≢true a)
content_is (Some y) a x e = cc

pub content_some : {X : Type 0} (o : Option X) (a : IsSome o) → Some (content_of o a) ≡ o
content_some None a = absurd (false≢true a)
content_some (Some x) a = refl

module _ {F N E : Type 0} where
  -- where the views are the same, so is what is known
  pub seen_same : (v w : Known (Option F) N E) (a : IsSome v.fixed) (b : IsSome w.fixed) → v ≡ w →
      seen_as v a ≡ seen_as w b
  seen_same v w a b e = subst
      (λ (z : Known (Option F) N E). (c : IsSome z.fixed) → seen_as v a ≡ seen_as z c) e
      (λ c i. record {
        fixed = content_same v.fixed a c i;
        live = v.live;
        number = v.number;
        has_turn = v.has_turn;
        nodes = v.nodes;
        events = v.events;
        opened = v.opened;
        own = v.own;
        ended = v.ended;
        made = v.made;
      }) b
