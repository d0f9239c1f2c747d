use Rattle.std.proofs.Common.{◌≡◌, suc, ◌-◌, ◌∷◌, get_or, drop, sym, ap, subst, ◌∙◌, arith}
use Rattle.std.proofs.Math.Seq.{drop-cons}
use Rattle.elf_load.specs.Pages.{HoldsAreas}
use Rattle.elf_load.proofs.Sweep.{zeros}
use Rattle.elf_load.proofs.pages.make_pages.Goals as goal

pub loop-i-preserved : goal.loop-i-preserved
loop-i-preserved c =
    let next : suc (c.loop-i.i - 1) ≡ c.loop-i.i = omega arith in
    let areas : drop (c.loop-i.i - 1) c.args.areas.now ≡ get_or c.args.areas.now (c.loop-i.i - 1) zeros ∷ drop c.loop-i.i c.args.areas.now =
    drop-cons c.args.areas.now (c.loop-i.i - 1) zeros (omega arith) ∙ ap (λ k. get_or c.args.areas.now (c.loop-i.i - 1) zeros ∷ drop k c.args.areas.now) next in
    subst (λ k. HoldsAreas c.args.bytes.now k c.map_area.new.pages) (sym areas) (c.in_ok-map_area.ensures (drop c.loop-i.i c.args.areas.now) c.loop-i.invariant)
