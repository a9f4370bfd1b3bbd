use Rattle.line_run.proofs.Fits.{codable-fits, codable-sendable, spelled-octets, few-besides, short-codable}
use Rattle.line_run.proofs.direction.codable_slots_fit.Goals as goal

pub returns : goal.returns
returns c = record { fits = codable-fits; sendable = codable-sendable; octets = spelled-octets; few = few-besides; short = short-codable }
