-- Paths as texts say them.
use Rattle.std.proofs.Common.{ℕ, List, [], ◌∷◌, ◌++◌, ◌≡◌, ◌≢◌, ◌<◌, ◌≤◌, ◌-◌, false, ◌==◌, length, take, drop, get_or, Option, Some, None, option_map, append_assoc, append-nil, refl, sym, ap, ◌∙◌, arith}
use Rattle.std.proofs.lemmas.Bool.Decides.{nat_tests}
use Rattle.rv_decode.specs.declared.ends.PathStep.{PathStep}
use Rattle.rv_decode.specs.declared.ends.PathStep.TheVariants.{Target}
use Rattle.test_files.proofs.RegionForms.{to_end}
use Rattle.text_parts.specs.Digits.{hex_number}
use Rattle.elf_load.specs.Regions.{put_first}
use Rattle.test_files.specs.Forms.{branch_of, path_of}

is_other : (letter : ℕ) → letter ≢ 64 → (letter == 64) ≡ false
is_other letter other = grind (arith, nat_tests, other)

-- a letter that is no @ stands alone
branch_first : (letter : ℕ) (rest : List ℕ) → (letter == 64) ≡ false → path_of (letter ∷ rest) ≡ put_first (branch_of letter) (path_of rest)
unfolding path_of
branch_first letter [] other = refl
branch_first letter (a ∷ []) other = refl
branch_first letter (a ∷ b ∷ []) other = refl
branch_first letter (a ∷ b ∷ c ∷ []) other = refl
branch_first letter (a ∷ b ∷ c ∷ d ∷ []) other = refl
branch_first letter (a ∷ b ∷ c ∷ d ∷ e ∷ []) other = refl
branch_first letter (a ∷ b ∷ c ∷ d ∷ e ∷ f ∷ []) other = refl
branch_first letter (a ∷ b ∷ c ∷ d ∷ e ∷ f ∷ g ∷ []) other = refl
branch_first letter (a ∷ b ∷ c ∷ d ∷ e ∷ f ∷ g ∷ h ∷ rest) other = rw other refl

-- so does each with fewer than eight bytes after it
short_first : (letter : ℕ) (rest : List ℕ) → length rest < 8 → path_of (letter ∷ rest) ≡ put_first (branch_of letter) (path_of rest)
unfolding path_of
short_first letter [] short = refl
short_first letter (a ∷ []) short = refl
short_first letter (a ∷ b ∷ []) short = refl
short_first letter (a ∷ b ∷ c ∷ []) short = refl
short_first letter (a ∷ b ∷ c ∷ d ∷ []) short = refl
short_first letter (a ∷ b ∷ c ∷ d ∷ e ∷ []) short = refl
short_first letter (a ∷ b ∷ c ∷ d ∷ e ∷ f ∷ []) short = refl
short_first letter (a ∷ b ∷ c ∷ d ∷ e ∷ f ∷ g ∷ []) short = refl
short_first letter (a ∷ b ∷ c ∷ d ∷ e ∷ f ∷ g ∷ h ∷ rest) short = absurd (omega (arith, short))

pub branch_at : (text : List ℕ) → 0 < length text → get_or text 0 0 ≢ 64 → path_of text ≡ put_first (branch_of (get_or text 0 0)) (path_of (drop 1 text))
branch_at [] some other = absurd (omega (arith, some))
branch_at (letter ∷ rest) some other = branch_first letter rest (is_other letter other)

pub short_at : (text : List ℕ) → 0 < length text → length text < 9 → path_of text ≡ put_first (branch_of (get_or text 0 0)) (path_of (drop 1 text))
short_at [] some short = absurd (omega (arith, some))
short_at (letter ∷ rest) some short = short_first letter rest (omega (arith, short))

-- an @ takes eight digits
pub target_at : (text : List ℕ) → 9 ≤ length text → get_or text 0 0 ≡ 64 → path_of text ≡ put_first (option_map Target (hex_number (take 8 (drop 1 text)))) (path_of (drop 9 text))
unfolding path_of
target_at [] enough is = absurd (omega (arith, enough))
target_at (letter ∷ []) enough is = absurd (omega (arith, enough))
target_at (letter ∷ a ∷ []) enough is = absurd (omega (arith, enough))
target_at (letter ∷ a ∷ b ∷ []) enough is = absurd (omega (arith, enough))
target_at (letter ∷ a ∷ b ∷ c ∷ []) enough is = absurd (omega (arith, enough))
target_at (letter ∷ a ∷ b ∷ c ∷ d ∷ []) enough is = absurd (omega (arith, enough))
target_at (letter ∷ a ∷ b ∷ c ∷ d ∷ e ∷ []) enough is = absurd (omega (arith, enough))
target_at (letter ∷ a ∷ b ∷ c ∷ d ∷ e ∷ f ∷ []) enough is = absurd (omega (arith, enough))
target_at (letter ∷ a ∷ b ∷ c ∷ d ∷ e ∷ f ∷ g ∷ []) enough is = absurd (omega (arith, enough))
target_at (letter ∷ a ∷ b ∷ c ∷ d ∷ e ∷ f ∷ g ∷ h ∷ rest) enough is = rw is refl

-- what the letter and the digits say
pub with_branch : (text : List ℕ) (step : Option PathStep) → path_of text ≡ put_first (branch_of (get_or text 0 0)) (path_of (drop 1 text)) → branch_of (get_or text 0 0) ≡ step
    → path_of text ≡ put_first step (path_of (drop 1 text))
with_branch text step is letter = is ∙ ap (λ s. put_first s (path_of (drop 1 text))) letter

pub with_address : (text : List ℕ) (target : Option ℕ) → path_of text ≡ put_first (option_map Target (hex_number (take 8 (drop 1 text)))) (path_of (drop 9 text))
    → hex_number (take 8 (drop 1 text)) ≡ target → path_of text ≡ put_first (option_map Target target) (path_of (drop 9 text))
with_address text target is digits = is ∙ ap (λ t. put_first (option_map Target t) (path_of (drop 9 text))) digits

-- ---- the entries one after another

pub nothing_before : {A : Type 0} (o : Option (List A)) → o ≡ option_map (λ later. [] ++ later) o
nothing_before None = refl
nothing_before (Some later) = refl

pub one_more : {A : Type 0} (done : List A) (first : A) (o : Option (List A)) → option_map (λ later. done ++ later) (put_first (Some first) o) ≡ option_map (λ later. (done ++ first ∷ []) ++ later) o
one_more done first None = refl
one_more done first (Some later) = ap Some (sym (append_assoc done (first ∷ []) later))

pub no_step : (text rest : List ℕ) (done : List PathStep) → path_of text ≡ option_map (λ later. done ++ later) (path_of rest) → path_of rest ≡ None → None ≡ path_of text
no_step text rest done before none = sym (before ∙ ap (option_map (λ later. done ++ later)) none)

pub next_step : (text rest : List ℕ) (len : ℕ) (done : List PathStep) (step : PathStep) → path_of text ≡ option_map (λ later. done ++ later) (path_of rest)
    → path_of rest ≡ put_first (Some step) (path_of (drop len rest)) → path_of text ≡ option_map (λ later. (done ++ step ∷ []) ++ later) (path_of (take (length rest - len) (drop len rest)))
next_step text rest len done step before is =
    rw (to_end rest len) (before ∙ ap (option_map (λ later. done ++ later)) is ∙ one_more done step (path_of (drop len rest)))

pub whole_path : (text rest : List ℕ) (done : List PathStep) → path_of text ≡ option_map (λ later. done ++ later) (path_of rest) → length rest ≡ 0 → Some done ≡ path_of text
unfolding path_of
whole_path text [] done before none = sym (before ∙ ap Some (append-nil done))
whole_path text (letter ∷ rest) done before none = absurd (omega (arith, none))
