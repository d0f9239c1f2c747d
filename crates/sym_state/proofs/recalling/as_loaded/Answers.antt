use Rattle.sym_state.proofs.LastStored.{kept_word}
use Rattle.sym_state.proofs.recalling.as_loaded.Goals as goal

pub returns-in-Lw-clause-ok : goal.returns-in-Lw-clause-ok
returns-in-Lw-clause-ok c =
    let below = c.fits.ensures in
    rw c.in-Lw.is (kept_word c.args.terms.now c.args.value c.requires.wide below)
