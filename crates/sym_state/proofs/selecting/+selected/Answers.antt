use Rattle.std.proofs.Common.{◌∷◌, ◌∙◌, ap, arith, subst, sym}
use Rattle.std.proofs.lemmas.List.Elements.{All-head, All-tail}
use Rattle.std.specs.Prelude.{IfOk}
use Rattle.sym_state.specs.Selecting.{AreBitsOf, Selects}
use Rattle.sym_state.specs.Values.{IsBit}
use Rattle.sym_state.specs.declared.value.Bit.TheVariants.{Term}
use Rattle.sym_state.proofs.Growing.{memory-grown, Continues-trans, width-kept}
use Rattle.sym_state.proofs.Leading.{bits-grown, found-is, selects_either}
use Rattle.sym_state.proofs.selecting.+selected.Goals as goal

pub selected-requires-in-Term-2 : goal.selected-requires-in-Term-2
selected-requires-in-Term-2 t c =
    let are = subst (AreBitsOf c.args.terms.now) (c.in-Some.ensures.cases.0 ∙ ap (λ b. b ∷ c.in-Some.rest.now) c.in-Term.is) c.requires.bits in
    let fewer = c.in-Some.ensures.cases.1 in
    let grown = c.in_ok-first-in-Term.ensures.ok.continues in (
      omega (arith, fewer, c.decreases),
      (
        c.requires.within,
        (
          omega (arith, fewer, c.requires.few),
          (
            bits-grown _ _ c.in-Some.rest.now grown (All-tail (IsBit c.args.terms.now) (Term c.in-Term.bit) c.in-Some.rest.now are),
            memory-grown _ _ c.args.memory.now grown c.requires.memory,
          ),
        ),
      ),
    )

pub either-requires-clause-bit : goal.either-requires-clause-bit
either-requires-clause-bit t c =
    let are = subst (AreBitsOf c.args.terms.now) (c.in-Some.ensures.cases.0 ∙ ap (λ b. b ∷ c.in-Some.rest.now) c.in-Term.is) c.requires.bits in
    let is = All-head (IsBit c.args.terms.now) (Term c.in-Term.bit) c.in-Some.rest.now are in
    let both = Continues-trans c.in_ok-first-in-Term.ensures.ok.continues c.in_ok-second-in-Term.ensures.ok.continues in
    width-kept _ _ c.in-Term.bit 1 both is.width (omega arith)

pub either-requires-clause-further : goal.either-requires-clause-further
either-requires-clause-further t c =
    found-is _ _ c.in_ok-first-in-Term.first c.in_ok-second-in-Term.ensures.ok.continues c.in_ok-first-in-Term.ensures.ok.is_byte

pub returns-in_ok-second-in-Term-clause-ok : goal.returns-in_ok-second-in-Term-clause-ok
returns-in_ok-second-in-Term-clause-ok t c =
    let same = c.in-Some.ensures.cases.0 ∙ ap (λ b. b ∷ c.in-Some.rest.now) c.in-Term.is in
    subst (λ bits. IfOk c.either.result (Selects c.args.terms.now c.either.new.terms c.args.memory.now c.args.place c.args.by bits c.args.start))
    (sym same)
    (selects_either c.args.terms.now c.selected-in-Term.new.terms c.selected-in-Term-2.new.terms c.either.new.terms c.either.result
    c.args.memory.now c.args.place c.args.by c.in-Term.bit c.in-Some.rest.now c.args.start
    c.in_ok-first-in-Term.first c.in_ok-second-in-Term.second (subst (AreBitsOf c.args.terms.now) same c.requires.bits) c.requires.memory
    (rw c.further_on-further.ensures at c.in_ok-first-in-Term.ensures.ok) c.in_ok-second-in-Term.ensures.ok c.either.ensures.ok)
