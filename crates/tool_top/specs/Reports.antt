-- The report that is put and said.
use Rattle.std.specs.Prelude.{◌≡◌, ℕ, List}
use Rattle.elf_load.specs.Images.{Image}
use Rattle.elf_load.specs.declared.region.Region.{Region}
use Rattle.tool_io.specs.Told.{Put}
use Rattle.tree_core.specs.declared.budgets.Budgets.{Budgets}
use Rattle.fork_spec.specs.Walks.{Line}
use Rattle.report_text.specs.Claims.{Entry, IsReport}
use Rattle.report_text.specs.Files.{files_of, summary_of}
use Rattle.report_text.specs.Legible.{HasSmallCounts}

-- these files and this text are the report, in the folder `out`, of entries for which all of the claims hold, and whose numbers texts can tell
pub record IsReportOf (out : List ℕ) (image : Image) (regions : List Region) (budgets : Budgets)
    (workers : ℕ) (puts : List Put) (text : List ℕ) : Type 0 where
  pub lines : List Line
  pub entries : List Entry
  pub claims : IsReport (record {
    image = image;
    regions = regions;
    budgets = budgets;
    workers = workers;
    lines = lines;
    entries = entries;
  })
  pub counts : HasSmallCounts
      (record {
        image = image;
        regions = regions;
        budgets = budgets;
        workers = workers;
        lines = lines;
        entries = entries;
      })
  pub files : puts ≡ files_of out budgets workers regions lines entries
  pub summary : text ≡ summary_of entries
