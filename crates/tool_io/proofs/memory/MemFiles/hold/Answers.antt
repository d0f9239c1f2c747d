use Rattle.tool_io.proofs.Held.{all_told-holding}
use Rattle.tool_io.proofs.memory.MemFiles.hold.Goals as goal

pub returns-clause-ok : goal.returns-clause-ok
returns-clause-ok c =
    all_told-holding c.args.self.now.held c.insert.new.self c.in_ok-name.name _ _ _ _ _ _ _ _
    c.in_ok-insert.ensures.updates c.in_ok-name.ensures.ok c.in_ok-bytes.ensures
