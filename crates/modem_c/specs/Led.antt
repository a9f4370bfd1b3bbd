-- What a handle leads to, by its kind.
use Rattle.std.specs.Prelude.{Option, Some, None}
use Rattle.gateway.specs.declared.decoder.SampleDecoder.{SampleDecoder}
use Rattle.gateway.specs.declared.encoder.SampleEncoder.{SampleEncoder}
use Rattle.gateway.specs.declared.meter.LockMeter.{LockMeter}
use Rattle.gateway.specs.declared.deframer.FrameReader.{FrameReader}
use Rattle.gateway.specs.declared.detector.PatternDetector.{PatternDetector}
use Rattle.gateway.specs.declared.framer.FrameWriter.{FrameWriter}
use Rattle.gateway.specs.declared.link.Endpoint.{Endpoint}
use Rattle.modem_c.specs.declared.machine.Machine.{Machine}
use Rattle.modem_c.specs.declared.machine.Machine.TheVariants as machines

abbrev pub decoder_in : Option Machine → Option SampleDecoder
decoder_in None = None
decoder_in (Some (machines.Decoder it)) = Some it
decoder_in (Some (machines.Encoder it)) = None
decoder_in (Some (machines.Meter it)) = None
decoder_in (Some (machines.Deframer it)) = None
decoder_in (Some (machines.Detector it)) = None
decoder_in (Some (machines.Framer it)) = None
decoder_in (Some (machines.Link it)) = None
decoder_in (Some machines.Spent) = None

abbrev pub encoder_in : Option Machine → Option SampleEncoder
encoder_in None = None
encoder_in (Some (machines.Decoder it)) = None
encoder_in (Some (machines.Encoder it)) = Some it
encoder_in (Some (machines.Meter it)) = None
encoder_in (Some (machines.Deframer it)) = None
encoder_in (Some (machines.Detector it)) = None
encoder_in (Some (machines.Framer it)) = None
encoder_in (Some (machines.Link it)) = None
encoder_in (Some machines.Spent) = None

abbrev pub meter_in : Option Machine → Option LockMeter
meter_in None = None
meter_in (Some (machines.Decoder it)) = None
meter_in (Some (machines.Encoder it)) = None
meter_in (Some (machines.Meter it)) = Some it
meter_in (Some (machines.Deframer it)) = None
meter_in (Some (machines.Detector it)) = None
meter_in (Some (machines.Framer it)) = None
meter_in (Some (machines.Link it)) = None
meter_in (Some machines.Spent) = None

abbrev pub deframer_in : Option Machine → Option FrameReader
deframer_in None = None
deframer_in (Some (machines.Decoder it)) = None
deframer_in (Some (machines.Encoder it)) = None
deframer_in (Some (machines.Meter it)) = None
deframer_in (Some (machines.Deframer it)) = Some it
deframer_in (Some (machines.Detector it)) = None
deframer_in (Some (machines.Framer it)) = None
deframer_in (Some (machines.Link it)) = None
deframer_in (Some machines.Spent) = None

abbrev pub framer_in : Option Machine → Option FrameWriter
framer_in None = None
framer_in (Some (machines.Decoder it)) = None
framer_in (Some (machines.Encoder it)) = None
framer_in (Some (machines.Meter it)) = None
framer_in (Some (machines.Deframer it)) = None
framer_in (Some (machines.Detector it)) = None
framer_in (Some (machines.Framer it)) = Some it
framer_in (Some (machines.Link it)) = None
framer_in (Some machines.Spent) = None

abbrev pub link_in : Option Machine → Option Endpoint
link_in None = None
link_in (Some (machines.Decoder it)) = None
link_in (Some (machines.Encoder it)) = None
link_in (Some (machines.Meter it)) = None
link_in (Some (machines.Deframer it)) = None
link_in (Some (machines.Detector it)) = None
link_in (Some (machines.Framer it)) = None
link_in (Some (machines.Link it)) = Some it
link_in (Some machines.Spent) = None

abbrev pub detector_in : Option Machine → Option PatternDetector
detector_in None = None
detector_in (Some (machines.Decoder it)) = None
detector_in (Some (machines.Encoder it)) = None
detector_in (Some (machines.Meter it)) = None
detector_in (Some (machines.Deframer it)) = None
detector_in (Some (machines.Detector it)) = Some it
detector_in (Some (machines.Framer it)) = None
detector_in (Some (machines.Link it)) = None
detector_in (Some machines.Spent) = None
