-- What the texts of the questions say.
use Rattle.std.proofs.Common.{ℕ, length, refl}
use Rattle.sqlite_resolve.specs.Compile.{first}
use Rattle.sqlite_tied.specs.Compute.{everything}
use Rattle.plan_tables_lookups.specs.Looks.{look_sql, question}
use Rattle.plan_tables_lookups.specs.declared.looks.Look.{Look}
use Rattle.plan_tables_lookups.specs.declared.looks.Look.TheVariants.{LastOf, DeletedFrom}
use Rattle.plan_tables_lookups.specs.declared.looks.Look.TheVariants.{HistoryListed, HistoryOf, DeletionsListed}
use Rattle.plan_tables_lookups.specs.declared.looks.Look.TheVariants.{DeletionsOf, Whole}
use Rattle.plan_tables_schema.specs.declared.tables.Table.TheVariants.{Meta}
use Rattle.plan_tables_schema.proofs.Written.{IfRead}
use Rattle.plan_tables_lookups.proofs.WrittenQuestions.{Says}

-- how many values are asked with
abbrev pub asked_with : Look → ℕ
asked_with LastOf = 2
asked_with HistoryListed = 0
asked_with DeletionsListed = 0
asked_with (Whole t) = 0
asked_with _ = 1

abbrev SaysLook : Look → Type 0
SaysLook look = IfRead (first (look_sql look)) (Says (question look) (asked_with look) (length (look_sql look)))

pub look_says : (look : Look) → SaysLook look
unfolding everything
look_says LastOf = record {
  text = (refl, refl, refl);
  is = refl;
  asks = record {
    whole = refl;
    core = refl;
    filter = (refl, refl, (refl, refl, refl), (refl, refl, refl));
    order = ((refl, refl, refl), refl);
    limit = (refl, refl);
  };
}
look_says DeletedFrom = record {
  text = (refl, refl, refl);
  is = refl;
  asks = record {
    whole = refl;
    core = refl;
    filter = (refl, refl, (refl, refl, refl), (refl, refl, refl));
    order = refl;
    limit = refl;
  };
}
look_says HistoryListed = record {
  text = (refl, refl, refl);
  is = refl;
  asks = record {
    whole = refl;
    core = refl;
    filter = refl;
    order = ((refl, refl, refl), ((refl, refl, refl), ((refl, refl, refl), refl)));
    limit = refl;
  };
}
look_says HistoryOf = record {
  text = (refl, refl, refl);
  is = refl;
  asks = record {
    whole = refl;
    core = refl;
    filter = (refl, (refl, refl, refl));
    order = ((refl, refl, refl), ((refl, refl, refl), ((refl, refl, refl), refl)));
    limit = refl;
  };
}
look_says DeletionsListed = record {
  text = (refl, refl, refl);
  is = refl;
  asks = record {
    whole = refl;
    core = refl;
    filter = refl;
    order = ((refl, refl, refl), ((refl, refl, refl), ((refl, refl, refl), refl)));
    limit = refl;
  };
}
look_says DeletionsOf = record {
  text = (refl, refl, refl);
  is = refl;
  asks = record {
    whole = refl;
    core = refl;
    filter = (refl, (refl, refl, refl));
    order = ((refl, refl, refl), ((refl, refl, refl), ((refl, refl, refl), refl)));
    limit = refl;
  };
}
look_says (Whole Meta) = record {
  text = (refl, refl, refl);
  is = refl;
  asks = record {
    whole = refl;
    core = refl;
    filter = refl;
    order = refl;
    limit = refl;
  };
}
look_says (Whole t) = record {
  text = (refl, refl, refl);
  is = refl;
  asks = record {
    whole = refl;
    core = refl;
    filter = refl;
    order = refl;
    limit = refl;
  };
}
look_says look = record {
  text = (refl, refl, refl);
  is = refl;
  asks = record {
    whole = refl;
    core = refl;
    filter = (refl, (refl, refl, refl));
    order = refl;
    limit = refl;
  };
}
