use Rattle.std.proofs.Common.{rules, ◌≡◌, sym, Err, None}
use Rattle.tool_words.specs.declared.job.WordsError.TheVariants.{Usage}
use Rattle.tool_words.proofs.Reading.{all_read, none_more, one_more}
use Rattle.tool_words.proofs.words.read_regions.Goals as goal

pub returns-in_err-ok_or : goal.returns-in_err-ok_or
returns-in_err-ok_or c =
    let answer : c.from_residual-in_err-ok_or.result ≡ Err Usage = search rules in
    let none : c.read_region.result ≡ None = search rules in
    rw answer (search (rules, sym c.loop-word.invariant, none_more c.args.words.now c.loop-word.word-index))

pub loop-word-preserved : goal.loop-word-preserved
loop-word-preserved c = search (rules, one_more c.args.words.now c.loop-word.word-index)

pub returns : goal.returns
returns c = search (rules, all_read c.args.words.now c.loop-word.word-index)
