use Rattle.link_pair.proofs.Names.{rules, named, inputs_of}
use Rattle.link_pair.specs.Words.{outputs_of}
use Rattle.link_pair.proofs.command.create_all.Goals as goal

pub create_outputs-requires : goal.create_outputs-requires
create_outputs-requires g c =
    let n = named c.args.words.now in
    c.apart_names_differ.ensures.outputs (inputs_of n) (outputs_of n) c.requires

pub returns : goal.returns
returns g c = record {
  ok = c.create_outputs.ensures.ok;
  err = c.create_outputs.ensures.err;
  only = c.create_outputs.ensures.only;
  said = search rules;
  stand = search rules;
  fails = c.create_outputs.ensures.fails;
}
