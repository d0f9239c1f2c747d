-- How a load may fail, behind a `?`.
use Rattle.std.proofs.Common.{◌≡◌, Option, Some, Result, Ok, Err, IfErr, IsErrAnd, sym, subst}
use Rattle.elf_load.specs.Refusals.{MayFail}
use Rattle.elf_load.specs.declared.refused.Refused.{Refused}
use Rattle.elf_load.specs.declared.load_error.LoadError.{LoadError}
use Rattle.elf_load.specs.declared.load_error.LoadError.TheVariants.{Refused as Refuses}

pub refused_so : {T : Type 0} (r : Result T LoadError) (why : Option Refused) (refused : Refused) → IsErrAnd r (λ e. e ≡ Refuses refused) → why ≡ Some refused → IfErr r (MayFail why)
refused_so (Ok x) why refused h w = tt
refused_so (Err e) why refused h w = subst (MayFail why) (sym h) w

pub fails_so : {T : Type 0} (r : Result T LoadError) (why : Option Refused) (error : LoadError) → IsErrAnd r (λ e. e ≡ error) → MayFail why error → IfErr r (MayFail why)
fails_so (Ok x) why error h w = tt
fails_so (Err e) why error h w = subst (MayFail why) (sym h) w
