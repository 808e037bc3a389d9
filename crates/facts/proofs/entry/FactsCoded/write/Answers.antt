use Rattle.std.proofs.Common.{rules}
use Rattle.codec.specs.Codes.{reads_back}
use Rattle.facts.specs.EntriesLemmas.{facts_code}
use Rattle.facts.proofs.entry.FactsCoded.write.Goals as goal

pub returns-clause-back : goal.returns-clause-back
returns-clause-back c = reads_back facts_code c.args.self c.args.out.now c.write.new.out c.write.result (search rules)
