use Rattle.row_files.proofs.Pushing.{none_yet, push_one}
use Rattle.row_files.proofs.file.push_words.Goals as goal

pub loop-word-init : goal.loop-word-init
loop-word-init c = none_yet c.args.words.now c.args.bytes.now.items

pub loop-word-preserved : goal.loop-word-preserved
loop-word-preserved c = push_one c.args.words.now c.loop-word.word-index 0 c.args.bytes.now.items c.loop-word.bytes.items _ c.to_le_bytes.result c.loop-word-test.true c.loop-word.invariant
    c.in_ok-extend_from_slice.ensures.items c.to_le_bytes.ensures
