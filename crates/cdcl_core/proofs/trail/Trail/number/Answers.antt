use Rattle.std.proofs.Common.{◌≡◌, ◌∙◌, ℕ, ◌+◌, None, Some, ap, subst, sym, take, get_or, List}
use Rattle.std.specs.List.{slice_get}
use Rattle.cdcl_core.specs.Trails.{Assignment, trail_values}
use Rattle.cdcl_core.specs.declared.trail.Entry.{Entry}
use Rattle.cdcl_core.proofs.Marks.{free_before}
use Rattle.cdcl_core.proofs.trail.Trail.number.Goals as goal

pub returns : goal.returns
returns c =
    let is : c.number_of.result ≡ get_or c.self.inside.numbers.items c.args.literal.variable 0
    = c.number_of.ensures ∙ ap (λ (ns : List ℕ). get_or ns c.variable.result 0) c.deref.ensures.value ∙ ap (λ v. get_or c.self.inside.numbers.items v 0) c.variable.ensures.value in
    record {
      after = λ n early.
          subst (λ (t : Assignment). trail_values (take n t.entries) c.args.literal.variable ≡ None) c.self.view_is
          (free_before c.self.inside.marks.items c.self.inside.numbers.items c.self.inside.entries.items c.args.literal.variable c.number_of.result n c.self.invariant is early);
      of_its_entry = λ p e there same.
          is ∙ ap (λ v. get_or c.self.inside.numbers.items v 0) (sym same)
          ∙ c.self.invariant.numbered p e (subst (λ (t : Assignment). slice_get t.entries p ≡ Some e) (sym c.self.view_is) there);
    }
