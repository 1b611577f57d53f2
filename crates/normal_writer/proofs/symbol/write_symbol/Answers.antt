use mathlib.Core.Bool.{true, false≢true}
use mathlib.Core.Path.{◌≡◌, sym, ◌∙◌, refl}
use Rattle.std.specs.Prelude.{◌<◌, length}
use Rattle.normal_writer.specs.Laws.Symbols.{outside_by, symbol_not, symbol_nameless, symbol_ready, symbol_alone, symbol_broken, symbol_many, symbol_writes}
use Rattle.normal_writer.proofs.symbol.write_symbol.Goals.{After-types, else-constant-via-then-constant+else-w, else-constant-via-else-constant}
use Rattle.normal_writer.proofs.symbol.write_symbol.Goals as goal

pub returns-then-not-starts_with : goal.returns-then-not-starts_with
returns-then-not-starts_with c =
    record {
      symbol = refl;
      same = refl;
      is = outside_by c.args.w.now c.args.w.now.s.now (symbol_not c.args.w.now.s.now (sym c.starts_with.ensures ∙ c.if-not-starts_with.true));
    }

pub returns-in_err-constant : goal.returns-in_err-constant
returns-in_err-constant c =
    rw c.from_residual.ensures (record {
      symbol = c.in_err-constant.ensures.symbol;
      same = c.in_err-constant.ensures.same;
      is = outside_by c.function.new.w c.args.w.now.s.now (symbol_nameless c.args.w.now.s.now
          (sym c.starts_with.ensures ∙ c.if-not-starts_with.false) c.function.new.w c.in_err-constant.ensures.is);
    })

pub returns-then-w : goal.returns-then-w
returns-then-w c =
    record {
      symbol = c.in_ok-constant.ensures.symbol;
      same = c.in_ok-constant.ensures.same;
      is = outside_by c.function.new.w c.args.w.now.s.now (symbol_alone c.args.w.now.s.now (sym c.starts_with.ensures ∙ c.if-not-starts_with.false) c.function.new.w
          c.in_ok-constant.ensures.symbol c.in_ok-constant.ensures.is c.if-constant.true c.if-w.true);
    }

pub types-requires : goal.types-requires
types-requires c =
    symbol_ready c.args.w.now.s.now (sym c.starts_with.ensures ∙ c.if-not-starts_with.false) c.function.new.w c.in_ok-constant.ensures.symbol
    c.in_ok-constant.ensures.is

-- behind a K there is a type
types_read : (c : After-types) → c.in_ok-constant.constant ≡ true → c.function.new.w.state.at < length c.function.new.w.s.now
types_read c x =
    elim c.else-constant.branch [
      | else-constant-via-then-constant+else-w w ↦ w.if-w.false
      | else-constant-via-else-constant w ↦ absurd (false≢true (sym w.if-constant.false ∙ x))
    ]

pub returns-in_err-types : goal.returns-in_err-types
returns-in_err-types c =
    let h = types_read (goal.at.returns-in_err-types c).After-types in
    rw c.from_residual-in_err-types.ensures (record {
      symbol = c.in_err-types.ensures.symbol ∙ c.in_ok-constant.ensures.symbol;
      same = c.in_err-types.ensures.same ∙ c.in_ok-constant.ensures.same;
      is = outside_by c.types.new.w c.args.w.now.s.now
          (symbol_broken c.args.w.now.s.now (sym c.starts_with.ensures ∙ c.if-not-starts_with.false) c.function.new.w c.in_ok-constant.ensures.symbol
          c.in_ok-constant.ensures.is h c.types.new.w c.in_err-types.ensures.is);
    })

pub returns-then-w-gt-ARGUMENTS : goal.returns-then-w-gt-ARGUMENTS
returns-then-w-gt-ARGUMENTS c =
    let h = types_read (goal.at.returns-then-w-gt-ARGUMENTS c).After-types in
    record {
      symbol = c.in_ok-types.ensures.symbol ∙ c.in_ok-constant.ensures.symbol;
      same = c.in_ok-types.ensures.same ∙ c.in_ok-constant.ensures.same;
      is = outside_by c.types.new.w c.args.w.now.s.now (symbol_many c.args.w.now.s.now (sym c.starts_with.ensures ∙ c.if-not-starts_with.false) c.function.new.w
          c.in_ok-constant.ensures.symbol c.in_ok-constant.ensures.is h c.types.new.w c.in_ok-types.ensures.is c.if-w-gt-ARGUMENTS.true);
    }

pub returns : goal.returns
returns c =
    let h = types_read (goal.at.returns c).After-types in
    record {
      symbol = c.in_ok-types.ensures.symbol ∙ c.in_ok-constant.ensures.symbol;
      same = c.in_ok-types.ensures.same ∙ c.in_ok-constant.ensures.same;
      is = symbol_writes c.args.w.now.s.now (sym c.starts_with.ensures ∙ c.if-not-starts_with.false) c.function.new.w c.in_ok-constant.ensures.symbol
          c.in_ok-constant.ensures.is h c.types.new.w c.in_ok-types.ensures.is c.if-w-gt-ARGUMENTS.false;
    }
