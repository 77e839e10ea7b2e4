use Rattle.std.proofs.Common.{sym}
use Rattle.step_laws.proofs.Fetched.{fetches_its_words}
use Rattle.step_laws.proofs.fetches_are_the_words.Goals as goal

pub returns : goal.returns
returns c =
    fetches_its_words c.length-count.result c.args.w0 c.args.w1 c.args.w2 c.args.w3 (record {
      length = sym c.length-count.ensures.count;
      least = c.length-count.ensures.least;
      most = c.length-count.ensures.most;
      alone = λ e. c.length-count.ensures.alone e 0;
      extended = c.length-count.ensures.extended;
    })
