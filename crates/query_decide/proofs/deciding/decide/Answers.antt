use Rattle.query_decide.proofs.deciding.decide.Goals as goal

pub returns-in-NoInput : goal.returns-in-NoInput
returns-in-NoInput c = c.decide_byte.ensures c.args.budget

pub returns-in-OneInput : goal.returns-in-OneInput
returns-in-OneInput c = c.decide_byte-in-OneInput.ensures c.args.budget
