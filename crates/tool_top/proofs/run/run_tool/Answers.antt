use Rattle.report_text.specs.Claims.{IsReport}
use Rattle.tool_top.specs.declared.verdict.Verdict.TheVariants.{Done, Differs, NoJob, ReadFault, Refused, TestRefused, Unfit}
use Rattle.tool_top.proofs.Endings.{answered_as, answered_faulted, answered_names, differs_other, done_audited, done_same, done_upgraded, done_written, faulted_job, no_job_none, read_rose, refused_no_program, refused_no_test, unfit_holds}
use Rattle.tool_top.proofs.Completing.{complete, complete_audit, complete_replay, complete_upgrade}
use Rattle.tool_top.proofs.run.run_tool.Goals as goal

pub returns-clause-names : goal.returns-clause-names
returns-clause-names g c = answered_names _ _ _ _ c.run_words.ensures

pub returns-clause-write_job : goal.returns-clause-write_job
returns-clause-write_job g c = λ six.
    faulted_job _ _ _ (answered_faulted _ _ _ c.run_words.result _ c.run_words.ensures c.status.ensures six)

pub returns-clause-refused_where : goal.returns-clause-refused_where
returns-clause-refused_where g c = λ three.
    refused_no_program _ _ _ (answered_as _ _ _ c.run_words.result Refused _ c.run_words.ensures c.status.ensures three)

pub returns-clause-unfit_where : goal.returns-clause-unfit_where
returns-clause-unfit_where g c = λ four.
    unfit_holds _ _ _ (answered_as _ _ _ c.run_words.result Unfit _ c.run_words.ensures c.status.ensures four)

pub returns-clause-exact_cover : goal.returns-clause-exact_cover
returns-clause-exact_cover g c = λ zero.
    done_written _ _ _ _ (λ report claims. claims.exact_cover)
    (answered_as _ _ _ c.run_words.result Done _ c.run_words.ensures c.status.ensures zero)

pub returns-clause-faithful : goal.returns-clause-faithful
returns-clause-faithful g c = λ zero.
    done_written _ _ _ _ (λ report claims. claims.faithful)
    (answered_as _ _ _ c.run_words.result Done _ c.run_words.ensures c.status.ensures zero)

pub returns-clause-tests_are_runs : goal.returns-clause-tests_are_runs
returns-clause-tests_are_runs g c = λ zero.
    done_written _ _ _ _ (λ report claims. claims.runs)
    (answered_as _ _ _ c.run_words.result Done _ c.run_words.ensures c.status.ensures zero)

pub returns-clause-cuts_show_their_budget : goal.returns-clause-cuts_show_their_budget
returns-clause-cuts_show_their_budget g c = λ zero.
    done_written _ _ _ _ (λ report claims. claims.cuts)
    (answered_as _ _ _ c.run_words.result Done _ c.run_words.ensures c.status.ensures zero)

pub returns-clause-history : goal.returns-clause-history
returns-clause-history g c = λ zero.
    done_written _ _ _ _ (λ report claims. claims.history)
    (answered_as _ _ _ c.run_words.result Done _ c.run_words.ensures c.status.ensures zero)

pub returns-clause-by_rank : goal.returns-clause-by_rank
returns-clause-by_rank g c = λ zero.
    done_written _ _ _ _ (λ report claims. claims.ranked)
    (answered_as _ _ _ c.run_words.result Done _ c.run_words.ensures c.status.ensures zero)

pub returns-clause-files_and_summary : goal.returns-clause-files_and_summary
returns-clause-files_and_summary g c = λ zero.
    done_written _ _ _ IsReport (λ report claims. claims)
    (answered_as _ _ _ c.run_words.result Done _ c.run_words.ensures c.status.ensures zero)

pub returns-clause-complete : goal.returns-clause-complete
returns-clause-complete g c = complete _ _ _ c.run_words.result _ c.run_words.ensures c.status.ensures

pub returns-clause-differs : goal.returns-clause-differs
returns-clause-differs g c = λ one. answered_as _ _ _ c.run_words.result Differs _ c.run_words.ensures c.status.ensures one

pub returns-clause-test_refused : goal.returns-clause-test_refused
returns-clause-test_refused g c = λ seven. answered_as _ _ _ c.run_words.result TestRefused _ c.run_words.ensures c.status.ensures seven

pub returns-clause-differs_where : goal.returns-clause-differs_where
returns-clause-differs_where g c = λ one.
    differs_other _ _ _ (answered_as _ _ _ c.run_words.result Differs _ c.run_words.ensures c.status.ensures one)

pub returns-clause-test_where : goal.returns-clause-test_where
returns-clause-test_where g c = λ seven.
    refused_no_test _ _ _ (answered_as _ _ _ c.run_words.result TestRefused _ c.run_words.ensures c.status.ensures seven)

pub returns-clause-same : goal.returns-clause-same
returns-clause-same g c = λ zero.
    done_same _ _ _ (answered_as _ _ _ c.run_words.result Done _ c.run_words.ensures c.status.ensures zero)

pub returns-clause-complete_replay : goal.returns-clause-complete_replay
returns-clause-complete_replay g c = complete_replay _ _ _ c.run_words.result _ c.run_words.ensures c.status.ensures

pub returns-clause-no_job_where : goal.returns-clause-no_job_where
returns-clause-no_job_where g c = λ two. no_job_none _ _ _ (answered_as _ _ _ c.run_words.result NoJob _ c.run_words.ensures c.status.ensures two)

pub returns-clause-read_where : goal.returns-clause-read_where
returns-clause-read_where g c = λ five. read_rose _ _ _ (answered_as _ _ _ c.run_words.result ReadFault _ c.run_words.ensures c.status.ensures five)

pub returns-clause-leaves_are_full : goal.returns-clause-leaves_are_full
returns-clause-leaves_are_full g c = λ zero.
    done_written _ _ _ _ (λ report claims. claims.full)
    (answered_as _ _ _ c.run_words.result Done _ c.run_words.ensures c.status.ensures zero)

pub returns-clause-alike : goal.returns-clause-alike
returns-clause-alike g c = λ zero.
    done_written _ _ _ _ (λ report claims. claims.alike)
    (answered_as _ _ _ c.run_words.result Done _ c.run_words.ensures c.status.ensures zero)

pub returns-clause-parted : goal.returns-clause-parted
returns-clause-parted g c = λ zero.
    done_written _ _ _ _ (λ report claims. claims.parted)
    (answered_as _ _ _ c.run_words.result Done _ c.run_words.ensures c.status.ensures zero)

pub returns-clause-input_bytes : goal.returns-clause-input_bytes
returns-clause-input_bytes g c = λ zero.
    done_written _ _ _ _ (λ report claims. claims.inputs)
    (answered_as _ _ _ c.run_words.result Done _ c.run_words.ensures c.status.ensures zero)

pub returns-clause-releases : goal.returns-clause-releases
returns-clause-releases g c = λ zero.
    done_written _ _ _ _ (λ report claims. claims.releases)
    (answered_as _ _ _ c.run_words.result Done _ c.run_words.ensures c.status.ensures zero)

pub returns-clause-upgraded : goal.returns-clause-upgraded
returns-clause-upgraded g c = λ zero.
    done_upgraded _ _ _ (answered_as _ _ _ c.run_words.result Done _ c.run_words.ensures c.status.ensures zero)

pub returns-clause-complete_upgrade : goal.returns-clause-complete_upgrade
returns-clause-complete_upgrade g c = complete_upgrade _ _ _ c.run_words.result _ c.run_words.ensures c.status.ensures

pub returns-clause-audited : goal.returns-clause-audited
returns-clause-audited g c = λ zero.
    done_audited _ _ _ (answered_as _ _ _ c.run_words.result Done _ c.run_words.ensures c.status.ensures zero)

pub returns-clause-complete_audit : goal.returns-clause-complete_audit
returns-clause-complete_audit g c = complete_audit _ _ _ c.run_words.result _ c.run_words.ensures c.status.ensures
