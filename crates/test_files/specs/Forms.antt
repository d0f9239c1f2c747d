-- What the texts in a test say, which are written as `Tests` has it.
use Rattle.std.specs.Prelude.{ℕ, Bool, not, ◌&&◌, ◌==◌, nat_lt, nat_le, if◌then◌else◌, List, [], ◌∷◌, length, take, drop, slice_index, Option, None, Some, codes, option_map}
use Rattle.std.specs.Char.{is_digit}
use Rattle.std.specs.List.{find, list_all}
use Rattle.std.specs.Str.{bytes_eq}
use Rattle.std.specs.Str.Parse.{digits_value}
use Rattle.elf_load.specs.Regions.{put_first, region_with}
use Rattle.elf_load.specs.declared.region.Region.{Region}
use Rattle.rv_decode.specs.Ends.{trap_name}
use Rattle.rv_decode.specs.declared.ends.End.{End}
use Rattle.rv_decode.specs.declared.ends.End.TheVariants.{Exit, Trapped}
use Rattle.rv_decode.specs.declared.ends.PathStep.{PathStep}
use Rattle.rv_decode.specs.declared.ends.PathStep.TheVariants.{Taken, NotTaken, Target}
use Rattle.rv_decode.specs.declared.ends.Trap.{Trap}
use Rattle.rv_decode.specs.declared.ends.Trap.TheVariants.{Illegal, FetchMisaligned, FetchAccess, LoadMisaligned, LoadAccess, StoreMisaligned, StoreAccess, Break, Call}
use Rattle.text_parts.specs.Digits.{has_leading_zero, hex_number}

-- ---- numbers

-- one to four decimal digits with no leading zero
abbrev pub is_short : List ℕ → Bool
is_short digits = nat_le 1 (length digits) && nat_le (length digits) 4
    && not (has_leading_zero digits) && list_all (λ digit. is_digit digit 10) digits

-- the number of one to four decimal digits with no leading zero
unfoldable pub short_number : List ℕ → Option ℕ
short_number digits = if is_short digits then Some (digits_value 10 digits) else None

-- ---- regions

-- an address in hexadecimal digits, a colon (58), and how many bytes
unfoldable pub region_of : List ℕ → Option Region
region_of text = if slice_index text 8 == 58
    then region_with (hex_number (take 8 text)) (short_number (drop 9 text)) else None

-- ---- ends

-- all traps
abbrev pub traps : List Trap
traps = Illegal ∷ FetchMisaligned ∷ FetchAccess ∷ LoadMisaligned ∷ LoadAccess ∷ StoreMisaligned
    ∷ StoreAccess ∷ Break ∷ Call ∷ []

-- the trap of this name
abbrev pub trap_named : List ℕ → Option Trap
trap_named name = find (λ trap. bytes_eq (trap_name trap) name) traps

-- the end with this status, which is below 256
abbrev pub exit_with : Option ℕ → Option End
exit_with (Some status) = if nat_lt status 256 then Some (Exit status) else None
exit_with None = None

-- the text begins so
abbrev pub begins_with : List ℕ → List ℕ → Bool
begins_with front text = bytes_eq (take (length front) text) front

-- how a run ends, and none in the second place where it is still running: `running`, `exit N` or `trap NAME`
unfoldable pub end_said : List ℕ → Option (Option End)
end_said text =
    if bytes_eq text (codes "running") then Some None else
    if begins_with (codes "exit ") text
    then option_map Some (exit_with (short_number (drop 5 text))) else
    if begins_with (codes "trap ") text
    then option_map (λ trap. Some (Trapped trap)) (trap_named (drop 5 text)) else
    None

-- ---- paths

-- T (84) and N (78) say what a branch does
abbrev pub branch_of : ℕ → Option PathStep
branch_of letter = if letter == 84 then Some Taken else if letter == 78 then Some NotTaken else None

-- the entries that stand with nothing between: after an @ (64) the eight digits of a target
unfoldable pub path_of : List ℕ → Option (List PathStep)
path_of [] = Some []
path_of (letter ∷ a ∷ b ∷ c ∷ d ∷ e ∷ f ∷ g ∷ h ∷ rest) =
    if letter == 64
    then put_first (option_map Target (hex_number (a ∷ b ∷ c ∷ d ∷ e ∷ f ∷ g ∷ h ∷ [])))
    (path_of rest)
    else put_first (branch_of letter) (path_of (a ∷ b ∷ c ∷ d ∷ e ∷ f ∷ g ∷ h ∷ rest))
path_of (letter ∷ rest) = put_first (branch_of letter) (path_of rest)
