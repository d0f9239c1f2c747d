-- The names of traps.
use Rattle.std.specs.Prelude.{ℕ, List, codes}
use Rattle.rv_decode.specs.declared.ends.Trap.{Trap}
use Rattle.rv_decode.specs.declared.ends.Trap.TheVariants.{Illegal, FetchMisaligned, FetchAccess, LoadMisaligned, LoadAccess, StoreMisaligned, StoreAccess, Break, Call}

abbrev pub trap_name : Trap → List ℕ
trap_name Illegal = codes "Illegal"
trap_name FetchMisaligned = codes "FetchMisaligned"
trap_name FetchAccess = codes "FetchAccess"
trap_name LoadMisaligned = codes "LoadMisaligned"
trap_name LoadAccess = codes "LoadAccess"
trap_name StoreMisaligned = codes "StoreMisaligned"
trap_name StoreAccess = codes "StoreAccess"
trap_name Break = codes "Break"
trap_name Call = codes "Call"
