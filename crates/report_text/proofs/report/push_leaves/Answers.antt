use Rattle.std.proofs.Common.{◌∙◌, ◌++◌, ◌+◌, ap, subst, sym, drop, get_or}
use Rattle.std.proofs.lemmas.List.{take_all}
use Rattle.std.proofs.lemmas.List.Elements.{All-more, All-same}
use Rattle.report_text.specs.Entries.{entries_of}
use Rattle.report_text.specs.Files.{files_from}
use Rattle.report_text.specs.Legible.{HasSmallLog}
use Rattle.report_text.specs.declared.leaves.LeafAt.{LeafAt}
use Rattle.report_text.proofs.FileList.{files_next, files_end}
use Rattle.report_text.proofs.report.push_leaves.Goals as goal

pub loop-rank-preserved : goal.loop-rank-preserved
loop-rank-preserved c =
    let rank = c.loop-rank.rank in
    let out = c.args.out.now in
    let leaves = c.args.leaves.now in
    let regions = c.args.regions.now in
    let leaf = c.index-leaves-rank.result in
    let here : HasSmallLog (get_or leaves rank leaf).part.now.evidence =
    subst (λ (l : LeafAt). HasSmallLog l.part.now.evidence) c.index-leaves-rank.is c.in_ok-push_files.ensures.small in
    record {
      files =
          ap (λ files. files ++ files_from out (rank + 1) (entries_of regions (rank + 1) (drop (rank + 1) leaves))) c.in_ok-push_files.ensures.files
          ∙ files_next out regions leaves rank leaf c.loop-rank.files.items c.loop-rank-test.true c.index-leaves-rank.is
          ∙ c.loop-rank.invariant.files;
      small = All-more (λ (l : LeafAt). HasSmallLog l.part.now.evidence) leaves rank leaf c.loop-rank-test.true c.loop-rank.invariant.small here;
    }

pub returns : goal.returns
returns c =
    let leaves = c.args.leaves.now in
    let all = take_all c.loop-rank.rank leaves c.loop-rank-test.false in
    record {
      files = sym (files_end c.args.out.now c.args.regions.now leaves c.loop-rank.rank c.loop-rank.files.items c.loop-rank-test.false) ∙ c.loop-rank.invariant.files;
      small = All-same (λ (l : LeafAt). HasSmallLog l.part.now.evidence) leaves _ (sym all) c.loop-rank.invariant.small;
    }
