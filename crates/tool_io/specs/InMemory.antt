-- What files in memory tell of themselves.
use Rattle.std.specs.BTreeMap.{get_by_text}
use Rattle.tool_io.specs.Told.{Seen, all_told}
use Rattle.tool_io.specs.declared.memory.MemFiles.{MemFiles}

-- everything
abbrev pub seen_of : MemFiles → Seen
seen_of files = record {
  told = all_told (λ name. get_by_text files.held name) files.names.items files.puts.items
      files.said.items;
  reads = files.read_faults;
  writes = files.write_faults;
}
