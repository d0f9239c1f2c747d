-- The bytes that a page holds in either form.
use Rattle.std.specs.Prelude.{List}
use Rattle.cow_pages.specs.SymbolicMemory.{number_bytes}
use Rattle.cow_pages.specs.declared.byte.Byte.{Byte}
use Rattle.cow_pages.specs.declared.page.Content.{Content}
use Rattle.cow_pages.specs.declared.page.Content.TheVariants.{Numbers, Mixed}

abbrev pub content_bytes : Content → List Byte
content_bytes (Numbers numbers) = number_bytes numbers.items
content_bytes (Mixed bytes) = bytes.items
