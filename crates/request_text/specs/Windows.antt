-- What a clause reads of the buffer of a line reader. No public clause cites this file.
use Rattle.std.specs.Prelude.{ℕ, List, slice_range}
use Rattle.request_text.specs.declared.line_reader.window.Window.{Window}

-- the bytes that the window shows
abbrev pub items : Window → List ℕ
items w = slice_range w.bytes.items w.start w.end
