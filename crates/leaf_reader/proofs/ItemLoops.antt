-- A loop that reads the items of a list one after another.
use Rattle.std.proofs.Common.{◌≡◌, ◌∙◌, ℕ, suc, ◌+◌, ◌-◌, ◌<◌, ◌≤◌, List, [], ◌∷◌, ◌++◌, length, Option, None, Some, option_map, refl, sym, ap, arith, append_assoc, append-nil, length-append}
use Rattle.rv_decode.specs.declared.ends.PathStep.{PathStep}
use Rattle.tree_core.specs.declared.choice.Choice.{Choice}
use Rattle.text_parts.specs.Items.{choice, step}
use Rattle.text_parts.specs.Names.{choice_text, step_text}
use Rattle.text_parts.specs.Pieces.{Reader, behind, items, list_end, made}
use Rattle.text_parts.proofs.ItemsBack.{some_choice, some_step}
use Rattle.leaf_reader.proofs.ItemsFrom.{from_choice, from_step}

-- the text has the items that were read, and then those of the rest
abbrev pub SoFar : {X : Type 0} → Reader X → (text : List ℕ) → (done : List X) → (rest : List ℕ) → Type 0
SoFar {X} read text done rest =
    (items read (suc (length text)) text
    ≡ option_map (λ (p : List X × List ℕ). (done ++ p.0, p.1)) (items read (suc (length text) - length done) rest))
    × (length rest + length done ≤ length text)

module _ {X : Type 0} (read : Reader X) (text : List ℕ) where
  nothing_before : (o : Option (List X × List ℕ)) → o ≡ option_map (λ (p : List X × List ℕ). ([] ++ p.0, p.1)) o
  nothing_before None = refl
  nothing_before (Some p) = refl

  one_more : (done : List X) (x : X) (o : Option (List X × List ℕ)) →
      option_map {U = List X × List ℕ} (λ (p : List X × List ℕ). (done ++ p.0, p.1)) (made (λ (xs : List X). x ∷ xs) o)
      ≡ option_map {U = List X × List ℕ} (λ (p : List X × List ℕ). ((done ++ x ∷ []) ++ p.0, p.1)) o
  one_more done x None = refl
  one_more done x (Some p) = ap (λ (xs : List X). let q : List X × List ℕ = (xs, p.1) in Some q) (sym (append_assoc done (x ∷ []) p.0))

  pub none_yet : SoFar read text [] text
  none_yet =
      let most : suc (length text) - 0 ≡ suc (length text) = omega arith in
      (rw most (nothing_before (items read (suc (length text)) text)), omega arith)

  at_end : (most : ℕ) (rest end : List ℕ) → behind list_end rest ≡ Some end → items read (suc most) rest ≡ Some ([], end)
  unfolding items
  at_end most rest end is = rw is refl

  at_none : (most : ℕ) (rest : List ℕ) → behind list_end rest ≡ None → read rest ≡ None → items read (suc most) rest ≡ None
  unfolding items
  at_none most rest is none = rw (is, none) refl

  at_item : (most : ℕ) (rest : List ℕ) (x : X) (more : List ℕ) → behind list_end rest ≡ None → read rest ≡ Some (x, more) →
      items read (suc most) rest ≡ made (λ (xs : List X). x ∷ xs) (items read most more)
  unfolding items
  at_item most rest x more is item = rw (is, item) refl

  pub list_ends : (done : List X) (rest end : List ℕ) → SoFar read text done rest → behind list_end rest ≡ Some end →
      items read (suc (length text)) text ≡ Some (done, end)
  list_ends done rest end so_far is =
      let most : suc (length text) - length done ≡ suc (length text - length done) = omega (arith, so_far.1) in
      so_far.0 ∙ ap (λ k. option_map (λ (p : List X × List ℕ). (done ++ p.0, p.1)) (items read k rest)) most
      ∙ ap (option_map (λ (p : List X × List ℕ). (done ++ p.0, p.1))) (at_end (length text - length done) rest end is)
      ∙ ap (λ (xs : List X). let q : List X × List ℕ = (xs, end) in Some q) (append-nil done)

  pub list_breaks : (done : List X) (rest : List ℕ) → SoFar read text done rest → behind list_end rest ≡ None →
      read rest ≡ None → items read (suc (length text)) text ≡ None
  list_breaks done rest so_far is none =
      let most : suc (length text) - length done ≡ suc (length text - length done) = omega (arith, so_far.1) in
      so_far.0 ∙ ap (λ k. option_map (λ (p : List X × List ℕ). (done ++ p.0, p.1)) (items read k rest)) most
      ∙ ap (option_map (λ (p : List X × List ℕ). (done ++ p.0, p.1))) (at_none (length text - length done) rest is none)

  pub list_goes_on : (done : List X) (rest : List ℕ) (x : X) (more : List ℕ) → SoFar read text done rest →
      behind list_end rest ≡ None → read rest ≡ Some (x, more) → length more < length rest →
      SoFar read text (done ++ x ∷ []) more
  list_goes_on done rest x more so_far is item less =
      let most : suc (length text) - length done ≡ suc (length text - length done) = omega (arith, so_far.1) in
      let left : suc (length text) - length (done ++ x ∷ []) ≡ length text - length done =
      omega (arith, length-append done (x ∷ [])) in (
        so_far.0 ∙ ap (λ k. option_map (λ (p : List X × List ℕ). (done ++ p.0, p.1)) (items read k rest)) most
            ∙ ap (option_map (λ (p : List X × List ℕ). (done ++ p.0, p.1))) (at_item (length text - length done) rest x more is item)
            ∙ one_more done x (items read (length text - length done) more)
            ∙ ap (λ k. option_map (λ (p : List X × List ℕ). ((done ++ x ∷ []) ++ p.0, p.1)) (items read k more)) (sym left),
        omega (arith, so_far.1, less, length-append done (x ∷ [])),
      )

-- an item takes a byte or more
pub choice_shortens : (text : List ℕ) (c : Choice) (rest : List ℕ) → choice text ≡ Some (c, rest) → length rest < length text
choice_shortens text c rest h =
    omega (arith, ap length (from_choice text c rest h).0, length-append (choice_text c) rest, some_choice c)

pub step_shortens : (text : List ℕ) (s : PathStep) (rest : List ℕ) → step text ≡ Some (s, rest) → length rest < length text
step_shortens text s rest h =
    omega (arith, ap length (from_step text s rest h).0, length-append (step_text s) rest, some_step s)
