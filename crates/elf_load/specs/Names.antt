-- The numbers and names of refusals.
use Rattle.std.specs.Prelude.{ℕ, List, codes}
use Rattle.elf_load.specs.declared.refused.Refused.{Refused}
use Rattle.elf_load.specs.declared.refused.Refused.TheVariants.{TooBig, Short, Magic, Class, ByteOrder, Version, FileType, Machine, Flags, HeaderSize, HeadersPastEnd, Dynamic, FileOverMemory, BytesPastEnd, AddressRange, Overlap, TooManyPages, Nothing}
use Rattle.elf_load.specs.declared.unfit.Unfit.{Unfit}
use Rattle.elf_load.specs.declared.unfit.Unfit.TheVariants.{TooMany, Empty, TooLong, Unmapped, Overlap as SharesAddress}

abbrev pub refused_number : Refused → ℕ
refused_number TooBig = 1
refused_number Short = 2
refused_number Magic = 3
refused_number Class = 4
refused_number ByteOrder = 5
refused_number Version = 6
refused_number FileType = 7
refused_number Machine = 8
refused_number Flags = 9
refused_number HeaderSize = 10
refused_number HeadersPastEnd = 11
refused_number Dynamic = 12
refused_number FileOverMemory = 13
refused_number BytesPastEnd = 14
refused_number AddressRange = 15
refused_number Overlap = 16
refused_number TooManyPages = 17
refused_number Nothing = 18

abbrev pub refused_name : Refused → List ℕ
refused_name TooBig = codes "TooBig"
refused_name Short = codes "Short"
refused_name Magic = codes "Magic"
refused_name Class = codes "Class"
refused_name ByteOrder = codes "ByteOrder"
refused_name Version = codes "Version"
refused_name FileType = codes "FileType"
refused_name Machine = codes "Machine"
refused_name Flags = codes "Flags"
refused_name HeaderSize = codes "HeaderSize"
refused_name HeadersPastEnd = codes "HeadersPastEnd"
refused_name Dynamic = codes "Dynamic"
refused_name FileOverMemory = codes "FileOverMemory"
refused_name BytesPastEnd = codes "BytesPastEnd"
refused_name AddressRange = codes "AddressRange"
refused_name Overlap = codes "Overlap"
refused_name TooManyPages = codes "TooManyPages"
refused_name Nothing = codes "Nothing"

-- Those of regions that do not fit.
abbrev pub unfit_number : Unfit → ℕ
unfit_number TooMany = 1
unfit_number Empty = 2
unfit_number TooLong = 3
unfit_number Unmapped = 4
unfit_number SharesAddress = 5

abbrev pub unfit_name : Unfit → List ℕ
unfit_name TooMany = codes "TooMany"
unfit_name Empty = codes "Empty"
unfit_name TooLong = codes "TooLong"
unfit_name Unmapped = codes "Unmapped"
unfit_name SharesAddress = codes "Overlap"
