use Rattle.api_meta.proofs.builder.engines_of.Given as goal

abbrev pub ghost-new : goal.ghost-new
ghost-new g a = g.shown_hirs
