-- Two classes made one.
use Rattle.std.proofs.Common.{◌≡◌, ℕ, ◌<◌, ◌≤◌, ◌==◌, Bool, true, false, cond, inl, inr, List, [], ◌∷◌, ◌++◌, length, map, Option, Some, None, refl, sym, ap, ◌∙◌, slice_index, arith}
use Rattle.std.specs.Prelude.{slice_get, fold, option_map}
use Rattle.std.specs.List.{range_with_len}
use Rattle.std.proofs.lemmas.Bool.{eq-eqb}
use Rattle.std.proofs.lemmas.Bool.Decides.{eqb_tells}
use Rattle.std.proofs.lemmas.List.{get_or-map, length-map}
use Rattle.std.proofs.lemmas.List.FromFn.{get_or-range_with_len, length-range_with_len}
use Rattle.std.proofs.lemmas.List.Sums.{fold-append}
use Rattle.std.proofs.lemmas.Option.{slice_get-get_or, slice_get-map, slice_get_past}
use Rattle.query_slice.specs.Classes.{joined, label_of, relabelled, renamed, renamed_all}
use Rattle.query_slice.specs.declared.classes.Renaming.{Renaming}

length-relabelled : (kept gone : Option ℕ) (labels : List ℕ) → length (relabelled kept gone labels) ≡ length labels
length-relabelled (Some kept) (Some gone) labels = length-map labels (λ l. cond (l == gone) kept l)
length-relabelled (Some kept) None labels = refl
length-relabelled None _ labels = refl

pub length-joined : (labels : List ℕ) (a b : Option ℕ) → length (joined labels a b) ≡ length labels
length-joined labels a b = length-relabelled (label_of labels a) (label_of labels b) labels

relabelled_by_none : (kept : Option ℕ) (labels : List ℕ) → relabelled kept None labels ≡ labels
relabelled_by_none (Some kept) labels = refl
relabelled_by_none None labels = refl

pub joined_none : (labels : List ℕ) (a : Option ℕ) → joined labels a None ≡ labels
joined_none labels a = relabelled_by_none (label_of labels a) labels

pub none_joined : (labels : List ℕ) (b : Option ℕ) → joined labels None b ≡ labels
none_joined labels b = refl

-- of two bytes that have a label
module _ (labels : List ℕ) (i j : ℕ) (i_there : i < length labels) (j_there : j < length labels) where
  joined_is : joined labels (Some i) (Some j) ≡ map (λ l. cond (l == slice_index labels j) (slice_index labels i) l) labels
  joined_is =
      ap (λ (o : Option ℕ). relabelled o (slice_get labels j) labels) (slice_get-get_or labels i 0 i_there)
      ∙ ap (λ (o : Option ℕ). relabelled (Some (slice_index labels i)) o labels) (slice_get-get_or labels j 0 j_there)

  new_label : (x : ℕ) → x < length labels → slice_index (joined labels (Some i) (Some j)) x ≡ cond (slice_index labels x == slice_index labels j) (slice_index labels i) (slice_index labels x)
  new_label x there =
      ap (λ (ls : List ℕ). slice_index ls x) joined_is
      ∙ get_or-map (λ l. cond (l == slice_index labels j) (slice_index labels i) l) labels x 0 0 there

  pub kept_joined : (x y : ℕ) → x < length labels → y < length labels → slice_index labels x ≡ slice_index labels y → slice_index (joined labels (Some i) (Some j)) x ≡ slice_index (joined labels (Some i) (Some j)) y
  kept_joined x y x_there y_there e =
      new_label x x_there ∙ ap (λ l. cond (l == slice_index labels j) (slice_index labels i) l) e ∙ sym (new_label y y_there)

  either_way : (b : Bool) (n : ℕ) → cond b n n ≡ n
  either_way true n = refl
  either_way false n = refl

  pub one_joined : slice_index (joined labels (Some i) (Some j)) i ≡ slice_index (joined labels (Some i) (Some j)) j
  one_joined =
      new_label i i_there
      ∙ either_way (slice_index labels i == slice_index labels j) (slice_index labels i)
      ∙ sym (new_label j j_there ∙ ap (λ b. cond b (slice_index labels i) (slice_index labels j)) (eq-eqb (slice_index labels j) (slice_index labels j) refl))

  -- nothing else is made one
  module _ (R : ℕ → ℕ → Type 0) (turned : (x y : ℕ) → R x y → R y x) (in_row : (x y z : ℕ) → R x y → R y z → R x z)
      (before : (x y : ℕ) → x < length labels → y < length labels → slice_index labels x ≡ slice_index labels y → R x y) (related : R i j) where
    pub only_joined : (x y : ℕ) → x < length labels → y < length labels → slice_index (joined labels (Some i) (Some j)) x ≡ slice_index (joined labels (Some i) (Some j)) y → R x y
    only_joined x y x_there y_there e =
        let same = sym (new_label x x_there) ∙ e ∙ new_label y y_there in
        elim (eqb_tells (slice_index labels x) (slice_index labels j)) [
          | inl p ↦ elim (eqb_tells (slice_index labels y) (slice_index labels j)) [
            | inl q ↦ before x y x_there y_there (p.1 ∙ sym q.1)
            | inr q ↦
                let next : slice_index labels i ≡ slice_index labels y = sym (ap (λ b. cond b (slice_index labels i) (slice_index labels x)) p.0) ∙ same ∙ ap (λ b. cond b (slice_index labels i) (slice_index labels y)) q.0 in
                in_row x j y (before x j x_there j_there p.1) (in_row j i y (turned i j related) (before i y i_there y_there next))
          ]
          | inr p ↦ elim (eqb_tells (slice_index labels y) (slice_index labels j)) [
            | inl q ↦
                let next : slice_index labels x ≡ slice_index labels i = sym (ap (λ b. cond b (slice_index labels i) (slice_index labels x)) p.0) ∙ same ∙ ap (λ b. cond b (slice_index labels i) (slice_index labels y)) q.0 in
                in_row x i y (before x i x_there i_there next) (in_row i j y related (before j y j_there y_there (sym q.1)))
            | inr q ↦
                before x y x_there y_there
                (sym (ap (λ b. cond b (slice_index labels i) (slice_index labels x)) p.0) ∙ same ∙ ap (λ b. cond b (slice_index labels i) (slice_index labels y)) q.0)
          ]
        ]

stays : (gone kept l : ℕ) → kept ≡ gone → l ≡ cond (l == gone) kept l
stays gone kept l e =
    elim (eqb_tells l gone) [
      | inl same ↦ same.1 ∙ sym e ∙ ap (λ b. cond b kept l) (sym same.0)
      | inr apart ↦ ap (λ b. cond b kept l) (sym apart.0)
    ]

-- a label that becomes itself
pub relabelled_itself : (gone kept : ℕ) (labels : List ℕ) → kept ≡ gone → labels ≡ map (λ l. cond (l == gone) kept l) labels
relabelled_itself gone kept [] e = refl
relabelled_itself gone kept (l ∷ labels) e =
    cc (stays gone kept l e, relabelled_itself gone kept labels e)

-- one renaming more
pub renamed_more : (renamings : List Renaming) (renaming : Renaming) (labels : List ℕ) →
    renamed_all (renamings ++ renaming ∷ []) labels ≡ map (renamed renaming) (renamed_all renamings labels)
renamed_more renamings renaming labels = fold-append (λ before r. map (renamed r) before) labels renamings (renaming ∷ [])

length-renamed_all : (renamings : List Renaming) (labels : List ℕ) → length (renamed_all renamings labels) ≡ length labels
length-renamed_all [] labels = refl
length-renamed_all (r ∷ rs) labels = length-renamed_all rs (map (renamed r) labels) ∙ length-map labels (renamed r)

label_renamed : (renamings : List Renaming) (labels : List ℕ) (i x : ℕ) → slice_get labels i ≡ Some x →
    slice_get (renamed_all renamings labels) i ≡ Some (fold (λ before r. renamed r before) x renamings)
label_renamed [] labels i x h = h
label_renamed (r ∷ rs) labels i x h =
    label_renamed rs (map (renamed r) labels) i (renamed r x) (slice_get-map (renamed r) labels i ∙ ap (option_map (renamed r)) h)

-- the label of a byte that is there, and of one that isn't
pub label_there : (renamings : List Renaming) (count i : ℕ) → i < count →
    slice_get (renamed_all renamings (range_with_len 0 count)) i ≡ Some (fold (λ before r. renamed r before) i renamings)
label_there renamings count i there =
    label_renamed renamings (range_with_len 0 count) i i
    (slice_get-get_or (range_with_len 0 count) i 0 (omega (arith, there, length-range_with_len 0 count))
    ∙ ap Some (get_or-range_with_len 0 count i 0 there ∙ omega arith))

pub label_past : (renamings : List Renaming) (count i : ℕ) → count ≤ i →
    slice_get (renamed_all renamings (range_with_len 0 count)) i ≡ None
label_past renamings count i past =
    slice_get_past (renamed_all renamings (range_with_len 0 count)) i
    (omega (arith, past, length-renamed_all renamings (range_with_len 0 count), length-range_with_len 0 count))
