-- What a line of the code shows.
use Rattle.text_lines.specs.Lines.{Line}
use Rattle.text_lines.specs.declared.Line.{Line as CodeLine}

abbrev pub line_view : CodeLine → Line
line_view l = record { bytes = l.bytes.now; ended = l.ended }
