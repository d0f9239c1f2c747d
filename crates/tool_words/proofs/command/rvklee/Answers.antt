use Rattle.std.proofs.Common.{◌≡◌, ◌∙◌, ap, codes, true}
use Rattle.std.proofs.lemmas.Result.{IfOk-weaker}
use Rattle.clap.specs.Simple.{Shape, app_of_fields, on_top}
use Rattle.clap.specs.Words.{app_of, new_app, with_subcommand}
use Rattle.tool_words.specs.Command.{audit_command, bench_command, explore_command, replay_command, rvklee_command, upgrade_command}
use Rattle.tool_words.proofs.Adding.{subcommand_added}
use Rattle.tool_words.proofs.command.rvklee.Goals as goal

pub returns : goal.returns
unfolding rvklee_command
returns c =
    let above : app_of c.subcommand_required.result ≡ on_top (λ (top : Shape). record top { subcommand_required = true }) (new_app (codes "rvklee")) =
    ap app_of_fields c.subcommand_required.ensures ∙ ap (on_top (λ (top : Shape). record top { subcommand_required = true })) c.new.ensures.app in
    let explores : app_of c.in_ok-subcommand.field-0 ≡ with_subcommand (on_top (λ (top : Shape). record top { subcommand_required = true }) (new_app (codes "rvklee"))) explore_command.top =
    subcommand_added c.subcommand_required.result c.in_ok-subcommand.field-0 c.in_ok-explore.field-0 _ explore_command c.in_ok-subcommand.ensures above c.in_ok-explore.ensures.app c.in_ok-explore.ensures.local in
    let replays : app_of c.in_ok-subcommand-2.field-0
    ≡ with_subcommand (with_subcommand (on_top (λ (top : Shape). record top { subcommand_required = true }) (new_app (codes "rvklee"))) explore_command.top) replay_command.top =
    subcommand_added c.in_ok-subcommand.field-0 c.in_ok-subcommand-2.field-0 c.in_ok-replay.field-0 _ replay_command c.in_ok-subcommand-2.ensures explores c.in_ok-replay.ensures.app c.in_ok-replay.ensures.local in
    let benches : app_of c.in_ok-subcommand-3.field-0
    ≡ with_subcommand (with_subcommand (with_subcommand (on_top (λ (top : Shape). record top { subcommand_required = true }) (new_app (codes "rvklee"))) explore_command.top) replay_command.top) bench_command.top =
    subcommand_added c.in_ok-subcommand-2.field-0 c.in_ok-subcommand-3.field-0 c.in_ok-bench.field-0 _ bench_command c.in_ok-subcommand-3.ensures replays c.in_ok-bench.ensures.app c.in_ok-bench.ensures.local in
    let upgrades : app_of c.in_ok-subcommand-4.field-0
    ≡ with_subcommand (with_subcommand (with_subcommand (with_subcommand (on_top (λ (top : Shape). record top { subcommand_required = true }) (new_app (codes "rvklee"))) explore_command.top) replay_command.top) bench_command.top) upgrade_command.top =
    subcommand_added c.in_ok-subcommand-3.field-0 c.in_ok-subcommand-4.field-0 c.in_ok-upgrade.field-0 _ upgrade_command c.in_ok-subcommand-4.ensures benches c.in_ok-upgrade.ensures.app c.in_ok-upgrade.ensures.local in
    IfOk-weaker c.subcommand-5.result _ _ (λ command added.
    subcommand_added c.in_ok-subcommand-4.field-0 command c.in_ok-audit.field-0 _ audit_command added upgrades c.in_ok-audit.ensures.app c.in_ok-audit.ensures.local) c.subcommand-5.ensures
