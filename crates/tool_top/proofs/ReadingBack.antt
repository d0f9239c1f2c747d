-- The files of leaves in full read as these leaves and as no others, and the other files have the texts of these events, tests and evidence alone.
use Rattle.std.proofs.Common.{◌≡◌, ℕ, zero, suc, ◌+◌, List, [], ◌∷◌, ◌++◌, refl, sym, ap, subst, ◌∙◌, arith}
use Rattle.std.specs.Prelude.{None, Option, Some, slice_get}
use Rattle.std.specs.List.{Contains}
use Rattle.std.proofs.lemmas.List.Elements.{Contains-append_left}
use Rattle.std.proofs.lemmas.Option.{none-some, same_Some}
use Rattle.elf_load.specs.Fits.{unfit}
use Rattle.fork_spec.specs.Leaves.{IsFull, Leaf}
use Rattle.report_text.proofs.ClaimsLegible.{at_leaf, entry_legible, lines_legible}
use Rattle.report_text.proofs.EventsBack.{events_told}
use Rattle.report_text.proofs.LearntBack.{learnt_told}
use Rattle.report_text.proofs.SpentBack.{nodes_told, spent_told}
use Rattle.report_text.specs.Claims.{Bare, Beside, Entry, Filling, IsReport, Learning, Report, Spending, Tested, leaf_nodes_of}
use Rattle.report_text.specs.Files.{beside_put, events_put, files_from, files_of, leaf_put, put_before, report_put}
use Rattle.report_text.specs.Legible.{HasSmallCounts, IsLegibleBeside}
use Rattle.smt_text.specs.Grammar.{IsTextOf, IsWhole}
use Rattle.smt_text.specs.LeafLines.{leaf_text}
use Rattle.smt_text.proofs.OneReading.{one_leaf}
use Rattle.smt_text.proofs.Reading.{text_reads}
use Rattle.smt_text.proofs.Whole.{whole_full, whole_text}
use Rattle.test_files.proofs.OneTest.{test_by_text}
use Rattle.tool_io.specs.Told.{Put}
use Rattle.tool_top.specs.ReadBack.{AreReadBack, HasOwnText, IsPut, ReadsAs}
use Rattle.tool_top.proofs.Plans.{region_starts}

-- what reads as a leaf is the text of a leaf in full
read_whole : (bytes : List ℕ) (leaf : Leaf) (is : IsTextOf bytes leaf) → IsWhole bytes is.read_as.reading
read_whole bytes leaf is = record {
  lines = is.lines;
  all_stand = is.read_as.all_stand;
  is_theirs = is.is_theirs;
  to_the_end = is.read_as.to_the_end;
}

read_full : (bytes : List ℕ) (leaf : Leaf) → IsTextOf bytes leaf → IsFull leaf
read_full bytes leaf is = subst IsFull is.read_as.same (whole_full bytes is.read_as.reading (read_whole bytes leaf is))

read_text : (bytes : List ℕ) (leaf : Leaf) → IsTextOf bytes leaf → bytes ≡ leaf_text leaf
read_text bytes leaf is = whole_text bytes is.read_as.reading (read_whole bytes leaf is) ∙ ap leaf_text is.read_as.same

-- the text of a leaf in full reads as this leaf alone
reads_as : (leaf : Leaf) → IsFull leaf → ReadsAs (leaf_text leaf) leaf
reads_as leaf full = record {
  is_its_text = text_reads leaf full;
  as_no_other = λ other is. one_leaf other leaf (read_full (leaf_text leaf) other is) full (sym (read_text (leaf_text leaf) other is));
}

further : {X : Type 0} (head x : X) (rest : List X) → Contains rest x → Contains (head ∷ rest) x
further head x rest (k, within, at) = (suc k, omega (arith, within), at)

-- what is put is put among more files
put_among : (puts all : List Put) → ((x : Put) → Contains puts x → Contains all x) → (put : Option Put) → IsPut puts put → IsPut all put
put_among puts all among None is = is
put_among puts all among (Some put) is = among put is

behind : (own : Option Put) (rest : List Put) (x : Put) → Contains rest x → Contains (put_before own rest) x
behind None rest x there = there
behind (Some put) rest x there = further put x rest there

-- what can be told has a file, which stands behind that of its leaf
beside_first : (out : List ℕ) (rank : ℕ) (leaf : Put) (b : Beside) (rest : List Put) → IsLegibleBeside b → IsPut (leaf ∷ put_before (beside_put out rank b) rest) (beside_put out rank b)
beside_first out rank leaf Bare rest legible = absurd legible
beside_first out rank leaf (Tested test) rest legible = (1, omega arith, refl)
beside_first out rank leaf (Spending spent) rest legible = (1, omega arith, refl)
beside_first out rank leaf (Learning learnt) rest legible = (1, omega arith, refl)
beside_first out rank leaf (Filling count) rest legible = (1, omega arith, refl)

-- the files of a leaf and of what stands beside it are among those of its rank and on
pub record ArePut (out : List ℕ) (puts : List Put) (rank : ℕ) (e : Entry) : Type 0 where
  pub leaf : Contains puts (leaf_put out rank e.leaf)
  pub beside : IsPut puts (beside_put out rank e.beside)

put_from : (out : List ℕ) (first : ℕ) (entries : List Entry) (rank : ℕ) (e : Entry) → slice_get entries rank ≡ Some e → IsLegibleBeside e.beside
    → ArePut out (files_from out first entries) (first + rank) e
unfolding files_from
put_from out first [] rank e at legible = absurd (none-some e at)
put_from out first (x ∷ es) zero e at legible =
    let number : first ≡ first + 0 = omega arith in
    let own : ArePut out (files_from out first (e ∷ es)) first e = record {
      leaf = (0, omega arith, refl);
      beside = beside_first out first (leaf_put out first e.leaf) e.beside (files_from out (first + 1) es) legible;
    } in
    subst (λ (p : Entry × ℕ). ArePut out (files_from out first (p.0 ∷ es)) p.1 e) (λ i. (sym (same_Some x e at) i, number i)) own
put_from out first (x ∷ es) (suc rank) e at legible =
    let number : (first + 1) + rank ≡ first + suc rank = omega arith in
    let rest : List Put = files_from out (first + 1) es in
    let there : ArePut out rest (first + suc rank) e = subst (λ n. ArePut out rest n e) number (put_from out (first + 1) es rank e at legible) in
    let leaf : Put = leaf_put out first x.leaf in let own : Option Put = beside_put out first x.beside in
    let on : (y : Put) → Contains rest y → Contains (leaf ∷ put_before own rest) y = λ y is. further leaf y (put_before own rest) (behind own rest y is) in
    record {
      leaf = on (leaf_put out (first + suc rank) e.leaf) there.leaf;
      beside = put_among rest (leaf ∷ put_before own rest) on (beside_put out (first + suc rank) e.beside) there.beside;
    }

-- the text of what can be told has no other meaning
own_text : (b : Beside) → IsLegibleBeside b → HasOwnText b
own_text Bare legible = legible
own_text (Tested test) legible = λ other is e. test_by_text other test is legible e
own_text (Spending spent) legible = λ other is e. spent_told other spent is legible e
own_text (Learning learnt) legible = λ other is e. learnt_told other learnt is legible e
own_text (Filling count) legible = λ other is e. nodes_told other count is legible e

-- each leaf is what its file reads as, and the other files are those of these events, tests and evidence alone, where the claims hold
pub read_back : (out : List ℕ) (r : Report) → IsReport r → HasSmallCounts r → unfit r.image r.regions ≡ None
    → AreReadBack out (files_of out r.budgets r.workers r.regions r.lines r.entries) r.lines r.entries
read_back out r claims counts fits =
    let last : List Put = report_put out r.budgets r.workers r.regions (leaf_nodes_of r.entries) ∷ [] in
    let files : List Put = files_from out 0 r.entries in
    let among : (p : Put) → Contains files p → Contains (files_of out r.budgets r.workers r.regions r.lines r.entries) p =
    λ p there. further (events_put out r.lines) p (files ++ last) (Contains-append_left files last p there) in
    record {
      events = (0, omega arith, refl);
      alone = λ others legible e. events_told others r.lines legible (lines_legible r claims counts) e;
      each = λ rank e at.
          let number : 0 + rank ≡ rank = omega arith in
          let legible : IsLegibleBeside e.beside = entry_legible r claims counts (region_starts r.image r.regions fits) rank e at in
          let there : ArePut out files rank e = subst (λ n. ArePut out files n e) number (put_from out 0 r.entries rank e at legible) in
          let full : IsFull e.leaf = at_leaf r claims counts IsFull rank e claims.full at in
          record {
            leaf = record { bytes = leaf_text e.leaf; is_put = among (leaf_put out rank e.leaf) there.leaf; reads = reads_as e.leaf full };
            beside = put_among files (files_of out r.budgets r.workers r.regions r.lines r.entries) among (beside_put out rank e.beside) there.beside;
            alone = own_text e.beside legible;
          };
    }
