use Rattle.run_inputs.specs.Words.{named, inputs_of, outputs_of}
use Rattle.run_commands.proofs.run.outputs.create_all.Goals as goal

pub create_outputs-requires-in-Some : goal.create_outputs-requires-in-Some
create_outputs-requires-in-Some g c =
    rw c.in-Some.is at (c.apart_names_differ.ensures.outputs (inputs_of (named c.args.words.now)) (outputs_of (named c.args.words.now))
    c.requires)

pub create_outputs-requires : goal.create_outputs-requires
create_outputs-requires g c =
    rw c.in-None.is at (c.apart_names_differ.ensures.outputs (inputs_of (named c.args.words.now)) (outputs_of (named c.args.words.now))
    c.requires)

pub returns-in-None : goal.returns-in-None
returns-in-None g c = record {
  ok = rw c.in-None.is c.create_outputs.ensures.ok;
  err = rw c.in-None.is c.create_outputs.ensures.err;
  only = rw c.in-None.is c.create_outputs.ensures.only;
  said = c.create_outputs.ensures.said;
  stand = c.create_outputs.ensures.stand;
  fails = rw c.in-None.is c.create_outputs.ensures.fails;
}

pub returns-in-Some : goal.returns-in-Some
returns-in-Some g c = record {
  ok = rw c.in-Some.is c.create_outputs-in-Some.ensures.ok;
  err = rw c.in-Some.is c.create_outputs-in-Some.ensures.err;
  only = rw c.in-Some.is c.create_outputs-in-Some.ensures.only;
  said = c.create_outputs-in-Some.ensures.said;
  stand = c.create_outputs-in-Some.ensures.stand;
  fails = rw c.in-Some.is c.create_outputs-in-Some.ensures.fails;
}
