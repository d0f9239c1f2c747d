use Rattle.std.proofs.Common.{◌≡◌, ◌∙◌, ◌+◌, ◌<◌, ◌≤◌, ℕ, suc, List, None, Some, length, option_map, ap, subst, sym, arith, Bor}
use Rattle.text_parts.specs.Pieces.{behind}
use Rattle.cert_text.proofs.Listed.{SoFar, list_breaks, list_ends, list_goes_on, list_over}
use Rattle.cert_text.proofs.lists.take_all.Goals as goal

pub returns-in-Some : goal.returns-in-Some
returns-in-Some g c =
    let left : c.loop.counter < suc (length c.args.text.now) = omega arith in
    let is : behind c.args.closing.now c.loop.rest.now ≡ Some c.in-Some.behind_end.now =
    sym c.behind.ensures ∙ ap (option_map (λ (r : Bor (List ℕ)). r.now)) c.in-Some.is in
    sym (list_ends g.X.Item.read c.args.closing.now c.args.text.now c.loop.counter c.loop.items.items c.loop.rest.now c.in-Some.behind_end.now c.loop.invariant left is)

pub returns-in_default-take : goal.returns-in_default-take
returns-in_default-take g c =
    let left : c.loop.counter < suc (length c.args.text.now) = omega arith in
    let is : behind c.args.closing.now c.loop.rest.now ≡ None =
    sym c.behind.ensures ∙ ap (option_map (λ (r : Bor (List ℕ)). r.now)) c.in_default.is in
    sym (list_breaks g.X.Item.read c.args.closing.now c.args.text.now c.loop.counter c.loop.items.items c.loop.rest.now c.loop.invariant left is (sym c.in_default-take.ensures))

pub loop-preserved : goal.loop-preserved
loop-preserved g c =
    let left : c.loop.counter < suc (length c.args.text.now) = omega arith in
    let is : behind c.args.closing.now c.loop.rest.now ≡ None =
    sym c.behind.ensures ∙ ap (option_map (λ (r : Bor (List ℕ)). r.now)) c.in_default.is in
    let one = list_goes_on g.X.Item.read c.args.closing.now c.args.text.now c.loop.counter c.loop.items.items c.loop.rest.now c.in-Some-take.item c.in-Some-take.more.now c.loop.invariant left is (sym c.in-Some-take.ensures) in
    subst (λ done. SoFar g.X.Item.read c.args.closing.now c.args.text.now (c.loop.counter + 1) done c.in-Some-take.more.now) (sym c.in_ok-push.ensures.items) one

pub returns : goal.returns
returns g c =
    let over : suc (length c.args.text.now) ≤ c.loop.counter = omega arith in
    sym (list_over g.X.Item.read c.args.closing.now c.args.text.now c.loop.counter c.loop.items.items c.loop.rest.now c.loop.invariant over)
