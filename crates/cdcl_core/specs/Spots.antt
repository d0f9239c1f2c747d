-- Two literals by which a clause is calm. Only private functions speak of this.
use Rattle.std.specs.Prelude.{ℕ, ◌==◌, ◌&&◌, ◌||◌, not, is_none, Bool, Option}
use Rattle.cnf_form.specs.Literals.{Literal}
use Rattle.cnf_form.specs.Propagation.{is_true}

-- one of them is true, or they are of two variables without a value
abbrev pub keep_calm : (ℕ → Option Bool) → Literal → Literal → Bool
keep_calm a l m = is_true a l || is_true a m
    || (is_none (a l.variable) && is_none (a m.variable) && not (l.variable == m.variable))
