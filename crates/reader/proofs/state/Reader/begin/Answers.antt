use Rattle.std.proofs.Common.{refl}
use Rattle.frames.specs.Lists.{extension_list}
use Rattle.calls.specs.Calls.{begin_on}
use Rattle.reader.proofs.Calls.{from_closed}
use Rattle.reader.proofs.state.Reader.begin.Goals as goal

pub returns-in-Closed : goal.returns-in-Closed
unfolding begin_on
returns-in-Closed g c =
    from_closed _ _ c.in-Closed.is
    (record {
      answered = refl;
      reads = record { source = _; is_open = refl; of_texts = refl; of_list = refl; stands = c.begin.ensures (extension_list c.args.extensions) };
      sheet = refl;
    })
