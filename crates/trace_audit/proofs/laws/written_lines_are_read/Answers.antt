use Rattle.trace_audit.proofs.Written.{line-has-parts, line-is-fed, octets-are-read}
use Rattle.trace_audit.proofs.laws.written_lines_are_read.Goals as goal

pub returns : goal.returns
returns c = record {
  text = line-is-fed;
  sendable = octets-are-read;
  parts = line-has-parts;
}
