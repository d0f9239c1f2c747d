use Rattle.std.proofs.Common.{append_assoc}
use Rattle.text_parts.proofs.Made.{behind}
use Rattle.smt_text.proofs.node_text.write_node.Goals as goal

pub returns-in_ok-push_numbered-in-Extract-2 : goal.returns-in_ok-push_numbered-in-Extract-2
returns-in_ok-push_numbered-in-Extract-2 c = record {
  ok = behind c.push_closed-in-Extract.result _ _ _ c.push_closed-in-Extract.ensures.ok
      (simp (c.in-Extract.is, c.in_ok-push_numbered-in-Extract-2.ensures.ok, c.in_ok-push_numbered-in-Extract.ensures.ok, append_assoc));
}
