use Rattle.std.proofs.Common.{◌≡◌, ◌+◌, ◌^◌, ◌<◌, ◌≤◌, ◌++◌, length, take, vec_len, ◌∙◌, inl, inr, arith}
use Rattle.std.proofs.lemmas.List.{length-take-le}
use Rattle.bench_io.proofs.Finds.{IsReading, read_on, length_read, whole_file}
use Rattle.bench_io.proofs.Readings.{stands_at, longer_told, same_view}
use Rattle.bench_io.proofs.whole_file.read_file.Given.{Over}
use Rattle.bench_io.proofs.whole_file.read_file.Goals as goal
use Rattle.bench_io.proofs.whole_file.read_file.Goals.{In-Count}

module _ (g : Over) (c : In-Count g) where
  -- the bytes that the read filled
  within : c.in-Count.n ≤ length c.read_piece.new.piece
  within = omega (arith, c.in-Count.ensures.within, c.in-Count.ensures.len)

  -- the reading went on
  after : IsReading (g.S.Shelf.files c.args.shelf.now) (g.S.Shelf.finds c.args.shelf.now) (g.S.Shelf.finds c.read_piece.new.shelf) c.in-Here.id c.args.name.now (c.pieces.bytes.items ++ take c.in-Count.n c.read_piece.new.piece)
  after =
      let small : length c.pieces.bytes.items + c.in-Count.n < 2 ^ 64 = omega (arith, c.in-Count.ensures.within, c.pieces.bytes.ok.0) in
      read_on c.pieces.invariant.reading c.in-Count.n c.read_piece.new.piece (g.S.Shelf.finds c.read_piece.new.shelf) small within c.in-Count.ensures.moved (rw c.pieces.invariant.same at c.in-Count.ensures.told)

  -- how many bytes were read so far
  so_far : length (c.pieces.bytes.items ++ take c.in-Count.n c.read_piece.new.piece) ≡ vec_len c.pieces.bytes + c.in-Count.n
  so_far = omega (arith, length_read c.in-Count.n c.pieces.bytes.items c.read_piece.new.piece within, c.pieces.bytes.ok.0)

pub pieces-preserved : goal.pieces-preserved
pieces-preserved g c = record {
  reading = rw c.in-Ok.ensures.items (after g ((goal.at.pieces-preserved g c).In-Count));
  same = c.in-Count.ensures.files ∙ c.pieces.invariant.same;
  uncounted = c.in-Count.ensures.uncounted ∙ c.pieces.invariant.uncounted;
  within = omega (arith, c.in-Ok.ensures.len, length-take-le c.in-Count.n c.read_piece.new.piece (within g ((goal.at.pieces-preserved g c).In-Count)));
}

pub returns-in-Absent-clause-ended : goal.returns-in-Absent-clause-ended
returns-in-Absent-clause-ended g c = record {
  told = c.in-Absent.ensures.absent;
  nothing = same_view _ _ _ _ _ _ c.in-Absent.ensures.files c.in-Absent.ensures.unmoved c.in-Absent.ensures.uncounted;
}

pub returns-in-Failed-clause-ended : goal.returns-in-Failed-clause-ended
returns-in-Failed-clause-ended g c =
    (record { find = inl c.in-Failed.ensures.unmoved; same = c.in-Failed.ensures.files }, c.in-Failed.ensures.failed)

pub returns-in-NoMemory-clause-ended : goal.returns-in-NoMemory-clause-ended
returns-in-NoMemory-clause-ended g c =
    (record { find = inl c.in-NoMemory.ensures.unmoved; same = c.in-NoMemory.ensures.files }, c.in-NoMemory.ensures.uncounted)

-- a read failed
pub returns-in-Failed-read_piece-clause-ended : goal.returns-in-Failed-read_piece-clause-ended
returns-in-Failed-read_piece-clause-ended g c = (
  record {
    find = inr (
      length c.pieces.bytes.items,
      omega (arith, c.pieces.invariant.within, c.pieces.bytes.ok.0),
      record {
        id = c.in-Here.id;
        last = c.in-Failed-read_piece.ensures.unmoved ∙ c.pieces.invariant.reading.stands;
      },
    );
    same = c.in-Failed-read_piece.ensures.files ∙ c.pieces.invariant.same;
  },
  rw c.pieces.invariant.uncounted at c.in-Failed-read_piece.ensures.failed,
)

-- nothing is left of a file that was read to its end
pub returns-then-n-eq0-clause-read : goal.returns-then-n-eq0-clause-read
returns-then-n-eq0-clause-read g c =
    let counted = (goal.at.returns-then-n-eq0-clause-read g c).In-Count in
    record {
      find = record {
        id = c.in-Here.id;
        last = stands_at _ _ _ _ _ _ _ (after g counted) (omega (arith, so_far g counted, c.if-n-eq0.true, c.pieces.bytes.ok.0));
      };
      told = whole_file c.pieces.invariant.reading (rw c.pieces.invariant.same at (c.in-Count.ensures.end c.if-n-eq0.true));
      within = omega (arith, c.pieces.invariant.within, c.pieces.bytes.ok.0);
      same = c.in-Count.ensures.files ∙ c.pieces.invariant.same;
      uncounted = c.in-Count.ensures.uncounted ∙ c.pieces.invariant.uncounted;
    }

pub returns-then-n-limit-clause-ended : goal.returns-then-n-limit-clause-ended
returns-then-n-limit-clause-ended g c =
    let counted = (goal.at.returns-then-n-limit-clause-ended g c).In-Count in
    record {
      find = record {
        id = c.in-Here.id;
        last = stands_at _ _ _ _ _ _ _ (after g counted) (omega (arith, so_far g counted, c.if-n-limit.true, c.in-Count.ensures.within, c.pieces.invariant.within));
      };
      told = longer_told _ _ _ _ (omega (arith, so_far g counted, c.if-n-limit.true, c.pieces.invariant.within)) (after g counted).front;
      same = c.in-Count.ensures.files ∙ c.pieces.invariant.same;
      uncounted = c.in-Count.ensures.uncounted ∙ c.pieces.invariant.uncounted;
    }

pub returns-in-Err-clause-ended : goal.returns-in-Err-clause-ended
returns-in-Err-clause-ended g c =
    let counted = (goal.at.returns-in-Err-clause-ended g c).In-Count in (
      record {
        find = inr (
          vec_len c.pieces.bytes + c.in-Count.n,
          omega (arith, c.if-n-limit.false, c.pieces.invariant.within),
          record {
            id = c.in-Here.id;
            last = stands_at _ _ _ _ _ _ _ (after g counted) (so_far g counted);
          },
        );
        same = c.in-Count.ensures.files ∙ c.pieces.invariant.same;
      },
      c.in-Count.ensures.uncounted ∙ c.pieces.invariant.uncounted,
    )
