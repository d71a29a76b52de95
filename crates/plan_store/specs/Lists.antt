-- The content of a store of lists.
use Rattle.planner_machine.specs.Content.{Content}
use Rattle.plan_store.specs.Contents.{content_of}
use Rattle.plan_store.specs.declared.list_store.ListStore.{ListStore}

abbrev pub listed : ListStore → Content
listed store = content_of store.content
