-- Which files are refused, and why: each row's test, and the first row whose test holds.
use Rattle.std.specs.Prelude.{◌≡◌, ℕ, ◌+◌, ◌*◌, ◌==◌, nat_lt, Bool, not, ◌&&◌, ◌||◌, if◌then◌else◌, List, length, slice_index, Option, Some, None}
use Rattle.std.specs.List.{list_any}
use Rattle.std.specs.Int.RustNames.{bit_and}
use Rattle.elf_load.specs.Fields.{header_of, headers, segments, is_loaded}
use Rattle.elf_load.specs.Areas.{end_of, share_address, any_pair, touched_pages, touches_stack}
use Rattle.elf_load.specs.declared.header.ProgramHeader.{ProgramHeader}
use Rattle.elf_load.specs.declared.load_error.LoadError.{LoadError}
use Rattle.elf_load.specs.declared.load_error.LoadError.TheVariants.{Refused as Refuses, NoMemory}
use Rattle.elf_load.specs.declared.refused.Refused.{Refused}
use Rattle.elf_load.specs.declared.refused.Refused.TheVariants.{TooBig, Short, Magic, Class, ByteOrder, Version, FileType, Machine, Flags, HeaderSize, HeadersPastEnd, Dynamic, FileOverMemory, BytesPastEnd, AddressRange, Overlap, TooManyPages, Nothing}

-- more than a mebibyte
abbrev pub refused_too_big : List ℕ → Bool
refused_too_big bytes = nat_lt 1048576 (length bytes)

-- no whole header
abbrev pub refused_short : List ℕ → Bool
refused_short bytes = nat_lt (length bytes) 52

-- EI_MAG0 to EI_MAG3
abbrev pub refused_magic : List ℕ → Bool
refused_magic bytes = not
    (slice_index bytes 0 == 0x7F && slice_index bytes 1 == 0x45 && slice_index bytes 2 == 0x4C
    && slice_index bytes 3 == 0x46)

-- EI_CLASS is not ELFCLASS32
abbrev pub refused_class : List ℕ → Bool
refused_class bytes = not (slice_index bytes 4 == 1)

-- EI_DATA is not ELFDATA2LSB
abbrev pub refused_byte_order : List ℕ → Bool
refused_byte_order bytes = not (slice_index bytes 5 == 1)

-- EI_VERSION or e_version is not EV_CURRENT
abbrev pub refused_version : List ℕ → Bool
refused_version bytes = not (slice_index bytes 6 == 1) || not ((header_of bytes).version == 1)

-- e_type is not ET_EXEC
abbrev pub refused_file_type : List ℕ → Bool
refused_file_type bytes = not ((header_of bytes).file_type == 2)

-- e_machine is not EM_RISCV
abbrev pub refused_machine : List ℕ → Bool
refused_machine bytes = not ((header_of bytes).machine == 243)

-- EF_RISCV_RVC or EF_RISCV_RVE is set
abbrev pub refused_flags : List ℕ → Bool
refused_flags bytes = not (bit_and (header_of bytes).flags 0x9 == 0)

-- the size of the header, or that of a program header where there is one, is not the standard's
abbrev pub refused_header_size : List ℕ → Bool
refused_header_size bytes =
    not ((header_of bytes).header_size == 52)
    || (not ((header_of bytes).row_count == 0) && not ((header_of bytes).row_size == 32))

-- the table of program headers passes the end
abbrev pub refused_headers_past_end : List ℕ → Bool
refused_headers_past_end bytes =
    nat_lt (length bytes) ((header_of bytes).table_offset + 32 * (header_of bytes).row_count)

-- the first of the rows on the header
unfoldable pub header_refusal : List ℕ → Option Refused
header_refusal bytes =
    if refused_too_big bytes then Some TooBig else
    if refused_short bytes then Some Short else
    if refused_magic bytes then Some Magic else
    if refused_class bytes then Some Class else
    if refused_byte_order bytes then Some ByteOrder else
    if refused_version bytes then Some Version else
    if refused_file_type bytes then Some FileType else
    if refused_machine bytes then Some Machine else
    if refused_flags bytes then Some Flags else
    if refused_header_size bytes then Some HeaderSize else
    if refused_headers_past_end bytes then Some HeadersPastEnd else
    None

-- of program headers: PT_DYNAMIC or PT_INTERP
abbrev pub refused_dynamic : List ProgramHeader → Bool
refused_dynamic hs = list_any (λ h. h.kind == 2 || h.kind == 3) hs

-- more bytes in the file than in memory
abbrev pub refused_file_over_memory : List ProgramHeader → Bool
refused_file_over_memory hs = list_any (λ h. is_loaded h && nat_lt h.memory_size h.file_size) hs

-- bytes past the end of a file of this length
abbrev pub refused_bytes_past_end : ℕ → List ProgramHeader → Bool
refused_bytes_past_end file_length hs =
    list_any (λ h. is_loaded h
    && (nat_lt 0 h.file_size && nat_lt file_length (h.offset + h.file_size))) hs

-- the first of the rows on program headers
unfoldable pub program_refusal : ℕ → List ProgramHeader → Option Refused
program_refusal file_length hs =
    if refused_dynamic hs then Some Dynamic else
    if refused_file_over_memory hs then Some FileOverMemory else
    if refused_bytes_past_end file_length hs then Some BytesPastEnd else
    None

-- of segments: past the end of memory, or on the stack's pages
abbrev pub refused_address_range : List ProgramHeader → Bool
refused_address_range ss = list_any (λ s. nat_lt 4294967296 (end_of s) || touches_stack s) ss

-- two share an address
abbrev pub refused_overlap : List ProgramHeader → Bool
refused_overlap ss = any_pair share_address ss

-- more than four mebibytes of pages
abbrev pub refused_too_many_pages : List ProgramHeader → Bool
refused_too_many_pages ss = nat_lt 16384 (touched_pages ss)

-- none
abbrev pub refused_nothing : List ProgramHeader → Bool
refused_nothing ss = length ss == 0

-- the first of the rows on segments
unfoldable pub segment_refusal : List ProgramHeader → Option Refused
segment_refusal ss =
    if refused_address_range ss then Some AddressRange else
    if refused_overlap ss then Some Overlap else
    if refused_too_many_pages ss then Some TooManyPages else
    if refused_nothing ss then Some Nothing else
    None

-- the first where there is one, and else the second
abbrev pub first_refusal : Option Refused → Option Refused → Option Refused
first_refusal None second = second
first_refusal (Some refused) second = Some refused

-- why a file is refused: the first row whose test holds
unfoldable pub refusal : List ℕ → Option Refused
refusal bytes = first_refusal (header_refusal bytes)
    (first_refusal (program_refusal (length bytes) (headers bytes))
    (segment_refusal (segments bytes)))

-- a load may end in this error: it was refused memory, or the file is refused so
abbrev pub MayFail : Option Refused → LoadError → Type 0
MayFail why NoMemory = Unit {0}
MayFail why (Refuses refused) = why ≡ Some refused
