use Rattle.run_sides.proofs.Pinning.{value_narrower}
use Rattle.run_sides.proofs.pin.value_side.Goals as goal

pub tested-requires-clause-first : goal.tested-requires-clause-first
tested-requires-clause-first c = rw c.in_ok-side.ensures.same c.requires.is_term

pub returns : goal.returns
returns c =
    rw (c.know.ensures.value, c.in_ok-narrow.ensures, c.in_ok-equal.ensures.ok.grown.same, c.in_ok-side.ensures.same)
    (value_narrower c.args.state.now c.tested.new.self.terms c.args.pin.now.place c.args.pin.now.term c.in_ok-equal.equal c.args.value c.in_ok-side.ensures.formed c.requires
    (rw c.in_ok-side.ensures.same at c.in_ok-equal.ensures.ok.gives))
