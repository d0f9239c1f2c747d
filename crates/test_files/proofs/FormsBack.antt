-- Ends and paths that were written are read back.
use Rattle.std.proofs.Common.{ℕ, suc, true, List, [], ◌∷◌, ◌++◌, ◌≡◌, ◌∙◌, ◌<◌, length, nat_lt, Option, Some, None, option_map, refl, ap, ap₂, decimal, arith}
use Rattle.std.specs.List.{All}
use Rattle.std.proofs.lemmas.Bool.Decides.{nat_tests}
use Rattle.rv_decode.specs.declared.ends.End.{End}
use Rattle.rv_decode.specs.declared.ends.End.TheVariants.{Exit, Trapped}
use Rattle.rv_decode.specs.declared.ends.PathStep.{PathStep}
use Rattle.rv_decode.specs.declared.ends.PathStep.TheVariants.{Taken, NotTaken, Target}
use Rattle.rv_decode.specs.declared.ends.Trap.TheVariants.{Illegal, FetchMisaligned, FetchAccess, LoadMisaligned, LoadAccess, StoreMisaligned, StoreAccess, Break, Call}
use Rattle.text_parts.specs.Names.{eight_digits, path_text, step_text}
use Rattle.text_parts.specs.Digits.{hex_number}
use Rattle.elf_load.specs.Regions.{put_first}
use Rattle.test_files.specs.Forms.{end_said, exit_with, path_of, short_number}
use Rattle.test_files.specs.Tests.{end_text}
use Rattle.test_files.specs.Writable.{HasStatus, HasTarget}
use Rattle.text_parts.proofs.DigitsBack.{hex_back, length_eight}
use Rattle.test_files.proofs.ShortNumbers.{short_back}
use Rattle.test_files.proofs.PathForms.{branch_at}

-- ---- ends

exit_back : (status : ℕ) → status < 256 → exit_with (short_number (decimal status)) ≡ Some (Exit status)
exit_back status small =
    let below : nat_lt status 256 ≡ true = grind (arith, nat_tests) in
    ap exit_with (short_back status (omega arith)) ∙ rw below refl

pub end_back : (end : Option End) → HasStatus end → end_said (end_text end) ≡ Some end
unfolding end_said
end_back None status = refl
end_back (Some (Exit n)) status = ap (option_map Some) (exit_back n status)
end_back (Some (Trapped Illegal)) status = refl
end_back (Some (Trapped FetchMisaligned)) status = refl
end_back (Some (Trapped FetchAccess)) status = refl
end_back (Some (Trapped LoadMisaligned)) status = refl
end_back (Some (Trapped LoadAccess)) status = refl
end_back (Some (Trapped StoreMisaligned)) status = refl
end_back (Some (Trapped StoreAccess)) status = refl
end_back (Some (Trapped Break)) status = refl
end_back (Some (Trapped Call)) status = refl

-- ---- paths

target_parts : (digits rest : List ℕ) → length digits ≡ 8 → path_of (64 ∷ (digits ++ rest)) ≡ put_first (option_map Target (hex_number digits)) (path_of rest)
unfolding path_of
target_parts [] rest is = absurd (omega (arith, is))
target_parts (a ∷ []) rest is = absurd (omega (arith, is))
target_parts (a ∷ b ∷ []) rest is = absurd (omega (arith, is))
target_parts (a ∷ b ∷ c ∷ []) rest is = absurd (omega (arith, is))
target_parts (a ∷ b ∷ c ∷ d ∷ []) rest is = absurd (omega (arith, is))
target_parts (a ∷ b ∷ c ∷ d ∷ e ∷ []) rest is = absurd (omega (arith, is))
target_parts (a ∷ b ∷ c ∷ d ∷ e ∷ f ∷ []) rest is = absurd (omega (arith, is))
target_parts (a ∷ b ∷ c ∷ d ∷ e ∷ f ∷ g ∷ []) rest is = absurd (omega (arith, is))
target_parts (a ∷ b ∷ c ∷ d ∷ e ∷ f ∷ g ∷ h ∷ []) rest is = refl
target_parts (a ∷ b ∷ c ∷ d ∷ e ∷ f ∷ g ∷ h ∷ i ∷ more) rest is = absurd (omega (arith, is))

pub path_back : (path : List PathStep) → All HasTarget path → path_of (path_text path) ≡ Some path
unfolding path_of
path_back [] targets = refl
path_back (step ∷ path) targets = go step (targets 0 step (omega arith)) (path_back path (λ k d lt. targets (suc k) d (omega arith)))
  where
    go : (step : PathStep) → HasTarget step → path_of (path_text path) ≡ Some path → path_of (step_text step ++ path_text path) ≡ Some (step ∷ path)
    go Taken target later = branch_at (84 ∷ path_text path) (omega arith) (λ is. omega (arith, is)) ∙ ap (put_first (Some Taken)) later
    go NotTaken target later = branch_at (78 ∷ path_text path) (omega arith) (λ is. omega (arith, is)) ∙ ap (put_first (Some NotTaken)) later
    go (Target t) target later =
        target_parts (eight_digits t) (path_text path) (length_eight t)
        ∙ ap₂ (λ a o. put_first (option_map Target a) o) (hex_back t target) later
