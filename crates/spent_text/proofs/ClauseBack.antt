-- A clause that was learnt is told by its line.
use Rattle.std.proofs.Common.{◌≡◌, ◌∙◌, ℕ, ◌<◌, ◌≤◌, ◌^◌, true, false, ◌&&◌, nat_lt, Bool, List, ◌++◌, None, Some, ap, arith, codes, decimal, length, refl, sym}
use Rattle.std.specs.Prelude.{All, if◌then◌else◌}
use Rattle.std.specs.List.{flat_map}
use Rattle.std.proofs.lemmas.Bool.Decides.{nat_tests}
use Rattle.std.proofs.lemmas.Fmt.{decimal_digit}
use Rattle.std.proofs.lemmas.List.{append_cancel_left}
use Rattle.cnf_form.specs.Literals.{Literal}
use Rattle.cnf_form.specs.Refutations.{Step}
use Rattle.fork_spec.specs.Leaves.{IsSmall}
use Rattle.text_parts.specs.Pieces.{behind, number, plain_number}
use Rattle.text_parts.proofs.Joined.{five_pieces}
use Rattle.text_parts.proofs.Words.{behind_word, number_back, starts_plain}
use Rattle.spent_text.specs.LearntLine.{hint_text, learnt_line, literal_text}
use Rattle.spent_text.specs.LineReading.{hint, literal}
use Rattle.spent_text.proofs.ListsBack.{all_go_on, items_told}

-- ---- numbers behind blanks

-- a blank stands there
abbrev pub IsSpaced : List ℕ → Type 0
IsSpaced text = (more : List ℕ) × (text ≡ codes " " ++ more)

pub spaced_plain : (text : List ℕ) → IsSpaced text → starts_plain text ≡ true
spaced_plain text (more, is) = ap starts_plain is

-- the number that ends a list
pub zero_back : (rest : List ℕ) → starts_plain rest ≡ true → number (codes "0" ++ rest) ≡ Some (0, rest)
zero_back rest plain =
    let digit : decimal 0 ≡ codes "0" = decimal_digit 0 (omega arith) in
    ap (λ (t : List ℕ). number (t ++ rest)) (sym digit) ∙ number_back 0 rest (omega arith) plain

-- ---- literals

no_number : (rest : List ℕ) → number (codes "-" ++ rest) ≡ None
unfolding number plain_number
no_number rest = refl

is_a_variable : (n : ℕ) → 1 ≤ n → IsSmall n → (nat_lt 0 n && nat_lt n (2 ^ 32)) ≡ true
is_a_variable n some small = grind (arith, nat_tests)

-- a literal whose variable has 32 bits, from 1 on
abbrev pub IsLiteral : Literal → Type 0
IsLiteral l = (1 ≤ l.variable) × IsSmall l.variable

pub literal_back : (l : Literal) (rest : List ℕ) → IsLiteral l → IsSpaced rest → literal (literal_text l ++ rest) ≡ Some (l, rest)
unfolding literal
literal_back l rest is spaced = go l.positive
  where
    fits : l.variable < 2 ^ 64
    fits = omega (arith, is.1)

    read : number (decimal l.variable ++ rest) ≡ Some (l.variable, rest)
    read = number_back l.variable rest fits (spaced_plain rest spaced)

    go : (b : Bool) → literal (((if b then codes " " else codes " -") ++ decimal l.variable) ++ rest) ≡ Some (record { variable = l.variable; positive = b }, rest)
    go true =
        rw (behind_word (codes " ") (decimal l.variable ++ rest), read, is_a_variable l.variable is.0 is.1) refl
    go false =
        rw (behind_word (codes " ") (codes "-" ++ (decimal l.variable ++ rest)), no_number (decimal l.variable ++ rest), behind_word (codes "-") (decimal l.variable ++ rest), read, is_a_variable l.variable is.0 is.1) refl

pub literal_spaced : (l : Literal) (rest : List ℕ) → IsSpaced (literal_text l ++ rest)
literal_spaced l rest = go l.positive
  where
    go : (b : Bool) → IsSpaced (((if b then codes " " else codes " -") ++ decimal l.variable) ++ rest)
    go true = (decimal l.variable ++ rest, refl)
    go false = (codes "-" ++ (decimal l.variable ++ rest), refl)

pub no_minus : (rest : List ℕ) → behind (codes "-") (codes "0" ++ rest) ≡ None
unfolding behind
no_minus rest = refl

pub no_literal_at_end : (rest : List ℕ) → IsSpaced rest → literal (codes " 0" ++ rest) ≡ None
unfolding literal
no_literal_at_end rest spaced =
    rw (behind_word (codes " ") (codes "0" ++ rest), zero_back rest (spaced_plain rest spaced), no_minus rest) refl

-- ---- hints

abbrev pub IsHint : ℕ → Type 0
IsHint h = h < 2 ^ 64

pub hint_back : (h : ℕ) (rest : List ℕ) → IsHint h → IsSpaced rest → hint (hint_text h ++ rest) ≡ Some (h, rest)
unfolding hint
hint_back h rest small spaced =
    let more : List ℕ = spaced.0 in
    let blank : behind (codes " ") rest ≡ Some more = ap (behind (codes " ")) spaced.1 ∙ behind_word (codes " ") more in
    rw (behind_word (codes " ") (decimal h ++ rest), number_back h rest small (spaced_plain rest spaced), blank) refl

pub hint_spaced : (h : ℕ) (rest : List ℕ) → IsSpaced (hint_text h ++ rest)
hint_spaced h rest = (decimal h ++ rest, refl)

pub no_blank : (rest : List ℕ) → behind (codes " ") (codes "\n" ++ rest) ≡ None
unfolding behind
no_blank rest = refl

pub no_hint_at_end : (rest : List ℕ) → hint (codes " 0\n" ++ rest) ≡ None
unfolding hint
no_hint_at_end rest =
    rw (behind_word (codes " ") (codes "0\n" ++ rest), zero_back (codes "\n" ++ rest) refl, no_blank rest) refl

-- ---- the line of a clause

-- a step whose numbers have texts of their own
pub record IsLegibleStep (s : Step) : Type 0 where
  pub literals : All IsLiteral s.clause
  pub hints : All IsHint s.hints

-- what stands behind the literals of a line
abbrev pub behind_literals : Step → List ℕ → List ℕ
behind_literals s rest = flat_map hint_text s.hints ++ (codes " 0\n" ++ rest)

pub hints_spaced : (s : Step) (rest : List ℕ) → IsSpaced (behind_literals s rest)
hints_spaced s rest = all_go_on hint hint_text IsHint IsSpaced hint_back hint_spaced s.hints (codes " 0\n" ++ rest) (codes "0\n" ++ rest, refl)

pub step_told : (s t : Step) (more rest : List ℕ) → IsLegibleStep s → IsLegibleStep t → learnt_line s ++ more ≡ learnt_line t ++ rest → (s ≡ t) × (more ≡ rest)
step_told s t more rest legible also e =
    let left : List ℕ = behind_literals s more in
    let also_left : List ℕ = behind_literals t rest in
    let text : codes "c" ++ (flat_map literal_text s.clause ++ (codes " 0" ++ left)) ≡ codes "c" ++ (flat_map literal_text t.clause ++ (codes " 0" ++ also_left)) =
    sym (five_pieces (codes "c") (flat_map literal_text s.clause) (codes " 0") (flat_map hint_text s.hints) (codes " 0\n") more) ∙ e
    ∙ five_pieces (codes "c") (flat_map literal_text t.clause) (codes " 0") (flat_map hint_text t.hints) (codes " 0\n") rest in
    let clauses = items_told literal literal_text IsLiteral IsSpaced literal_back literal_spaced s.clause t.clause (codes " 0" ++ left) (codes " 0" ++ also_left)
    legible.literals also.literals (codes "0" ++ left, refl) (codes "0" ++ also_left, refl)
    (no_literal_at_end left (hints_spaced s more)) (no_literal_at_end also_left (hints_spaced t rest))
    (append_cancel_left (codes "c") (flat_map literal_text s.clause ++ (codes " 0" ++ left)) (flat_map literal_text t.clause ++ (codes " 0" ++ also_left)) text) in
    let hints = items_told hint hint_text IsHint IsSpaced hint_back hint_spaced s.hints t.hints (codes " 0\n" ++ more) (codes " 0\n" ++ rest)
    legible.hints also.hints (codes "0\n" ++ more, refl) (codes "0\n" ++ rest, refl) (no_hint_at_end more) (no_hint_at_end rest)
    (append_cancel_left (codes " 0") left also_left clauses.1) in
    let clause : s.clause ≡ t.clause = clauses.0 in
    let hint_numbers : s.hints ≡ t.hints = hints.0 in
    (λ k. record { clause = clause k; hints = hint_numbers k }, append_cancel_left (codes " 0\n") more rest hints.1)

pub some_step : (s : Step) → 0 < length (learnt_line s)
some_step s = omega arith
