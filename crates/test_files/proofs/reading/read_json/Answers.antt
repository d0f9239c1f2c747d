use Rattle.std.proofs.Common.{rules, ◌≡◌, true, false, None}
use Rattle.serde_json.specs.Errors.{IsMemory}
use Rattle.serde_json.specs.View.{view}
use Rattle.test_files.specs.Reading.{json_of}
use Rattle.test_files.proofs.Jsons.{json_absent, json_there}
use Rattle.test_files.proofs.reading.read_json.Goals as goal

pub returns-in-Ok-clause-read : goal.returns-in-Ok-clause-read
returns-in-Ok-clause-read c = json_there c.args.text.now (view c.in-Ok.value) c.in-Ok.ensures.ok

pub returns-in-Err-2-clause-refused : goal.returns-in-Err-2-clause-refused
returns-in-Err-2-clause-refused c =
    let other : IsMemory c.in-Err.error → ⊥ = λ is. (let yes : c.is_memory.result ≡ true = c.is_memory.ensures.1 is in let no : c.is_memory.result ≡ false = c.if-is_memory.false in cc) in
    let none : json_of c.args.text.now ≡ None = json_absent c.args.text.now (c.in-Err.ensures.err other) in
    search (rules, none)
