-- The files of leaves, one leaf after another, and what the summary and the JSON see of them.
use Rattle.std.proofs.Common.{◌≡◌, ◌∙◌, ℕ, zero, suc, ◌+◌, ◌<◌, ◌≤◌, ◌^◌, Bool, true, false, List, [], ◌∷◌, ◌++◌, if◌then◌else◌, get_or, drop, length, map, ap, sym, refl, append_assoc, add-one, arith, drop-cons}
use Rattle.std.specs.Prelude.{All, Option, None, Some}
use Rattle.std.proofs.lemmas.List.{append-nil, drop_all, length-append, length-map}
use Rattle.std.proofs.lemmas.List.Elements.{All-cons, All-head, All-nil, All-tail}
use Rattle.std.proofs.lemmas.List.Sorted.{length_permutation}
use Rattle.tool_io.specs.Told.{Put}
use Rattle.elf_load.specs.declared.region.Region.{Region}
use Rattle.tree_core.specs.Stories.{Story, status}
use Rattle.fork_spec.specs.Histories.{LeafNode, is_leaf_status}
use Rattle.fork_spec.specs.Leaves.{Leaf}
use Rattle.fork_spec.specs.Parts.{Evidence, OnConflicts, OnNodes, OnTargets, Part}
use Rattle.fork_tree.specs.declared.content.Content.{Content}
use Rattle.report_text.specs.Claims.{Entry, leaf_nodes_of, leaves_of}
use Rattle.report_text.specs.Legible.{HasSmallLog, HasSmallLogBeside}
use Rattle.report_text.specs.Entries.{AreByRank, beside_of, entries_of, entry_of, leaf_numbers, leaf_node_of, numbers_where}
use Rattle.report_text.specs.Files.{beside_put, files_from, leaf_put, put_before}
use Rattle.report_text.specs.declared.leaves.LeafAt.{LeafAt}

pub leaf_nodes_of_entries : (regions : List Region) (rank : ℕ) (leaves : List LeafAt) → leaf_nodes_of (entries_of regions rank leaves) ≡ map leaf_node_of leaves
unfolding entries_of
leaf_nodes_of_entries regions rank [] = refl
leaf_nodes_of_entries regions rank (l ∷ ls) = ap (λ ns. leaf_node_of l ∷ ns) (leaf_nodes_of_entries regions (rank + 1) ls)

pub leaves_of_nodes : (regions : List Region) (rank : ℕ) (leaves : List LeafAt) → map (λ (n : LeafNode). n.leaf) (map leaf_node_of leaves) ≡ leaves_of (entries_of regions rank leaves)
unfolding entries_of
leaves_of_nodes regions rank [] = refl
leaves_of_nodes regions rank (l ∷ ls) = ap (λ ks. l.part.now.leaf ∷ ks) (leaves_of_nodes regions (rank + 1) ls)

before_more : (put : Option Put) (rest : List Put) → put_before put [] ++ rest ≡ put_before put rest
before_more None rest = refl
before_more (Some put) rest = refl

-- the files of one leaf more, and those of the rest
pub files_next : (out : List ℕ) (regions : List Region) (leaves : List LeafAt) (rank : ℕ) (l : LeafAt) (files : List Put) → rank < length leaves → l ≡ get_or leaves rank l →
    (files ++ leaf_put out rank l.part.now.leaf ∷ put_before (beside_put out rank (beside_of regions rank l.part.now.leaf l.part.now.sample l.part.now.evidence)) []) ++ files_from out (rank + 1) (entries_of regions (rank + 1) (drop (rank + 1) leaves))
    ≡ files ++ files_from out rank (entries_of regions rank (drop rank leaves))
unfolding entries_of files_from
files_next out regions leaves rank l files h e =
    let rest : drop rank leaves ≡ l ∷ drop (rank + 1) leaves = rw add-one (drop-cons leaves rank l h ∙ ap (λ q. q ∷ drop (suc rank) leaves) (sym e)) in
    let own : Put = leaf_put out rank l.part.now.leaf in
    let beside : Option Put = beside_put out rank (beside_of regions rank l.part.now.leaf l.part.now.sample l.part.now.evidence) in
    let others : List Put = files_from out (rank + 1) (entries_of regions (rank + 1) (drop (rank + 1) leaves)) in
    append_assoc files (own ∷ put_before beside []) others
    ∙ ap (λ puts. files ++ own ∷ puts) (before_more beside others)
    ∙ ap (λ ls. files ++ files_from out rank (entries_of regions rank ls)) (sym rest)

pub files_end : (out : List ℕ) (regions : List Region) (leaves : List LeafAt) (rank : ℕ) (files : List Put) → length leaves ≤ rank →
    files ++ files_from out rank (entries_of regions rank (drop rank leaves)) ≡ files
unfolding entries_of files_from
files_end out regions leaves rank files h =
    ap (λ ls. files ++ files_from out rank (entries_of regions rank ls)) (drop_all rank leaves h) ∙ append-nil files

-- there are no more leaves than nodes
few_numbers : (p : ℕ → Bool) (n : ℕ) → length (numbers_where p n) ≤ n
unfolding numbers_where
few_numbers p zero = omega arith
few_numbers p (suc n) = by_test (p n) (few_numbers p n)
  where
    by_test : (b : Bool) → length (numbers_where p n) ≤ n → length (numbers_where p n ++ (if b then n ∷ [] else [])) ≤ suc n
    by_test true le = let sum : length (numbers_where p n ++ n ∷ []) ≡ length (numbers_where p n) + 1 = length-append (numbers_where p n) (n ∷ []) in omega (arith, le, sum)
    by_test false le = let sum : length (numbers_where p n ++ []) ≡ length (numbers_where p n) = ap length (append-nil (numbers_where p n)) in omega (arith, le, sum)

pub few_leaves : {S L : Type 0} (part_of : L → Part) (s : Story (Content S L)) (leaves : List LeafAt) → AreByRank part_of s leaves → length s.nodes < 2 ^ 32 → length leaves < 2 ^ 32
few_leaves part_of s leaves by_rank few =
    let low : length (leaf_numbers s) ≤ length s.nodes = few_numbers (λ m. is_leaf_status (status s m)) (length s.nodes) in
    let same : length leaves ≡ length (leaf_numbers s) = sym (length-map leaves (λ (l : LeafAt). l.node)) ∙ length_permutation (leaf_numbers s) (map (λ (l : LeafAt). l.node) leaves) by_rank.all in
    omega (arith, low, same, few)

-- the logs beside leaves are those of their parts
log_beside : (regions : List Region) (rank : ℕ) (leaf : Leaf) (sample : Option (List ℕ)) (evidence : Option Evidence) → HasSmallLog evidence → HasSmallLogBeside (beside_of regions rank leaf sample evidence)
log_beside regions rank leaf sample (Some (OnTargets spent)) small = tt
log_beside regions rank leaf sample (Some (OnConflicts learnt)) small = small
log_beside regions rank leaf sample (Some (OnNodes count)) small = small
log_beside regions rank leaf (Some input) None small = tt
log_beside regions rank leaf None None small = tt

pub logs_beside : (regions : List Region) (rank : ℕ) (leaves : List LeafAt) → All (λ (l : LeafAt). HasSmallLog l.part.now.evidence) leaves →
    All (λ (e : Entry). HasSmallLogBeside e.beside) (entries_of regions rank leaves)
unfolding entries_of
logs_beside regions rank [] small = All-nil (λ (e : Entry). HasSmallLogBeside e.beside)
logs_beside regions rank (l ∷ ls) small =
    let first : HasSmallLog l.part.now.evidence = All-head (λ (k : LeafAt). HasSmallLog k.part.now.evidence) l ls small in
    All-cons (λ (e : Entry). HasSmallLogBeside e.beside) (entry_of regions rank l) (entries_of regions (rank + 1) ls)
    (log_beside regions rank l.part.now.leaf l.part.now.sample l.part.now.evidence first)
    (logs_beside regions (rank + 1) ls (All-tail (λ (k : LeafAt). HasSmallLog k.part.now.evidence) l ls small))
